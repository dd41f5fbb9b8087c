use Rattle.ham_frame.proofs.Typed.{all_below}
use Rattle.ham_frame.proofs.ranges.fits_hello.Goals as goal

pub returns-then-version-eq-VERSION : goal.returns-then-version-eq-VERSION
returns-then-version-eq-VERSION c =
    let are = c.are_replicas.ensures in (
      λ h.
          record {
            is_version = c.if-version-eq-VERSION.true;
            long = c.told-_digest;
            each_byte = all_below 256 c.args._digest.now c.fits-_digest;
            is_from = (are.0 h).0;
            is_of = (are.0 h).1;
          },
      λ fit. are.1 (fit.is_from, fit.is_of),
    )
