-- The two directions in which a text is read. What is proved of both is proved once, of a direction.
use Rattle.std.specs.Prelude.{ℕ, ◌≡◌, List, length}
use Rattle.std.proofs.Common.{arith, ext_get_or}
use Rattle.matching.specs.Occurrence.{Apart}
use Rattle.matching.specs.Rows.{Before, NotAfter, meet, join, After, NotBefore}
use Rattle.matching.proofs.Laws.Rows.{at_meet, at_join}

-- `r ≺ s`: s stands past r at every slot. `r ≼ s`: s stands nearer than r at no slot. `near r s`: the nearer place at each slot.
module _ (m : ℕ) (◌≺◌ ◌≼◌ : List ℕ → List ℕ → Type 0) (near : List ℕ → List ℕ → List ℕ) where
  infix 40 ◌≺◌
  infix 40 ◌≼◌
  -- what is asked of a direction
  pub record Direction : Type 0 where
    pub past_trans : (r s t : List ℕ) → r ≺ s → s ≺ t → r ≺ t
    pub past_apart : (r s : List ℕ) → r ≺ s → Apart m r s
    pub past_of_near : (r s t : List ℕ) → r ≼ s → s ≺ t → r ≺ t
    pub near_refl : (r : List ℕ) → r ≼ r
    pub near_trans : (r s t : List ℕ) → r ≼ s → s ≼ t → r ≼ t
    pub near_antisym : (r s : List ℕ) → length r ≡ m → length s ≡ m → r ≼ s → s ≼ r → r ≡ s
    pub near_left : (r s : List ℕ) → near r s ≼ r
    pub near_right : (r s : List ℕ) → near r s ≼ s
    pub near_past : (a r s : List ℕ) → a ≺ r → a ≺ s → a ≺ near r s

pub forwards : (m : ℕ) → Direction m (Before m) (NotAfter m) meet
unfolding Before NotAfter Apart
forwards m = record {
  past_trans = λ r s t p q j h. omega (arith, p j h, q j h);
  past_apart = λ r s p j h e. omega (arith, p j h);
  past_of_near = λ r s t p q j h. omega (arith, p j h, q j h);
  near_refl = λ r j h. omega arith;
  near_trans = λ r s t p q j h. omega (arith, p j h, q j h);
  near_antisym = λ r s e e' p q. ext_get_or 0 r s (omega arith) (λ j h. omega (arith, p j (omega arith), q j (omega arith)));
  near_left = λ r s j h. omega (arith, at_meet r s j);
  near_right = λ r s j h. omega (arith, at_meet r s j);
  near_past = λ a r s p q j h. omega (arith, p j h, q j h, at_meet r s j);
}

pub backwards : (m : ℕ) → Direction m (After m) (NotBefore m) join
unfolding Before NotAfter Apart
backwards m = record {
  past_trans = λ r s t p q j h. omega (arith, p j h, q j h);
  past_apart = λ r s p j h e. omega (arith, p j h);
  past_of_near = λ r s t p q j h. omega (arith, p j h, q j h);
  near_refl = λ r j h. omega arith;
  near_trans = λ r s t p q j h. omega (arith, p j h, q j h);
  near_antisym = λ r s e e' p q. ext_get_or 0 r s (omega arith) (λ j h. omega (arith, p j (omega arith), q j (omega arith)));
  near_left = λ r s j h. omega (arith, at_join r s j);
  near_right = λ r s j h. omega (arith, at_join r s j);
  near_past = λ a r s p q j h. omega (arith, p j h, q j h, at_join r s j);
}
