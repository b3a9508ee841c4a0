use Rattle.network_files.proofs.DrawnFileLemmas.{all_files}
use Rattle.network_files.proofs.files.draw_files.Goals as goal

pub returns-clause-files : goal.returns-clause-files
returns-clause-files c =
    all_files c.args.draws.now c.draw_file.new.draws c.draw_file-2.new.draws c.draw_file-3.new.draws c.in_ok-first.first c.in_ok-second.second c.in_ok-third.third c.in_ok-fourth.fourth c.four.result
    c.requires c.in_ok-first.ensures.drawn c.in_ok-second.ensures.drawn c.in_ok-third.ensures.drawn
    c.in_ok-first.ensures.file c.in_ok-second.ensures.file c.in_ok-third.ensures.file c.in_ok-fourth.ensures.file c.four.ensures
