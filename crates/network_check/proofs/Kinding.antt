-- A list of numbers among the values of settings.
use Rattle.std.proofs.Common.{◌≡◌, ◌&&◌, nat_le, is_some, Some, None, ap, sym}
use Rattle.toml.specs.Data.{Data, Items, string, integer, float, boolean, datetime, array, table, as_array}
use Rattle.plant_text.specs.SettingsText.{item_count, numbers_in}
use Rattle.network_check.specs.Kinds.{are_numbers}

pub by_items : (d : Data) (ds : Items) → Some ds ≡ as_array d → are_numbers d ≡ nat_le (item_count ds) 8 && is_some (numbers_in ds)
by_items (array es) ds is = let same : ds ≡ es = cc in ap (λ (xs : Items). nat_le (item_count xs) 8 && is_some (numbers_in xs)) (sym same)
by_items (string s) ds is = absurd (let never : Some ds ≡ None = is in cc)
by_items (integer z) ds is = absurd (let never : Some ds ≡ None = is in cc)
by_items (float x) ds is = absurd (let never : Some ds ≡ None = is in cc)
by_items (boolean b) ds is = absurd (let never : Some ds ≡ None = is in cc)
by_items (datetime t) ds is = absurd (let never : Some ds ≡ None = is in cc)
by_items (table ms) ds is = absurd (let never : Some ds ≡ None = is in cc)
