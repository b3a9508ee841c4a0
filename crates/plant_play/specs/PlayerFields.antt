-- A network that is played, by the fields of its player.
use Rattle.plant_play.specs.declared.player.Player.TheInside.{Inside}
use Rattle.plant_play.specs.Playing.{Scene}

abbrev pub scene_of : Inside → Scene
scene_of a = record { plant = a.plant; modes = a.modes }
