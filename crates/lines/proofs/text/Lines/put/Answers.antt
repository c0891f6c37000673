use Rattle.std.proofs.Common.{refl, arith}
use Rattle.listing.proofs.Putting.{copied}
use Rattle.lines.proofs.text.Lines.put.Goals as goal

pub returns : goal.returns
returns c =
    let a = c.args in
    let n = c.min-n.ensures in
    record {
      same_buffer = refl;
      put =
          record {
            place = omega (arith, n, a.self.now.inside);
            bytes =
                copied a.self.now.out.now a.text.now c.copy_from_slice.new.self a.self.now.at
                c.min-n.result a.self.now.inside n c.copy_from_slice.ensures.after;
          };
    }
