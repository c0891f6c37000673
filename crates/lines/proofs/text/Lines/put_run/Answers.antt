use Rattle.listing.specs.Text.{run_line}
use Rattle.lines.proofs.Writing.{◌then◌}
use Rattle.lines.proofs.text.Lines.put_run.Goals as goal

pub returns : goal.returns
unfolding run_line
returns c =
    c.put.ensures
    then c.put_hex8.ensures
    then c.put-2.ensures
