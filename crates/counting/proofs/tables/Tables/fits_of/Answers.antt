-- `counting::tables::Tables::fits_of` meets its contract: from an index to n past it there are n entries.
use Rattle.std.proofs.Common.{◌≡◌, ◌+◌, ◌-◌, ◌*◌, refl, arith}
use Rattle.counting.specs.Steps.Fits.{part}
use Rattle.counting.proofs.tables.Tables.fits_of.Goals as goal

pub returns : goal.returns
unfolding part
returns c =
    let a = c.args in
    let e : a.j * 20000 + a.first + a.n - (a.j * 20000 + a.first) ≡ a.n = omega arith in
    rw e refl
