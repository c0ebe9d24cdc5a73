-- The number that is left falls.
use Rattle.basics.proofs.bytes.+put_number.Given as goal

abbrev pub decreases-put_number : goal.decreases-put_number
decreases-put_number l = l.n
