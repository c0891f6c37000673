use Rattle.std.proofs.Common.{sym, ◌∙◌}
use Rattle.listing.specs.Summary.{refused_at}
use Rattle.lines.proofs.Writing.{◌then◌}
use Rattle.lines.proofs.text.Lines.put_refused_at.Goals as goal

pub returns-then-is_records : goal.returns-then-is_records
unfolding refused_at
returns-then-is_records c =
    rw (sym c.is_records.ensures ∙ c.if-is_records.true)
    (c.put_counted.ensures then c.put_counted-then-is_records.ensures)

pub returns-else-is_records : goal.returns-else-is_records
unfolding refused_at
returns-else-is_records c =
    rw (sym c.is_records.ensures ∙ c.if-is_records.false) c.put.ensures
