-- The recoded words are written one by one. Assumes nothing.
use Rattle.std.proofs.Common.{◌≡◌, ℕ, ◌+◌, ◌<◌, ◌≤◌, Bool, List, length, get_or, set, sym, ap, ◌∙◌, arith, length-set}
use lib.Seq.{paste}
use Rattle.basics.specs.Laws.Arrays.{pasted_more, pasted_all}
use Rattle.classes.specs.Trees.{Tree, meets}
use Rattle.classes.specs.Recoding.{recoded_word, recoded_words}
use Rattle.classes.specs.Steps.Sets.{numbers, contains, MetBy}
use Rattle.classes.specs.Steps.Words.{Puts}
use Rattle.classes.specs.Laws.Words.{recoded-length, recoded_at}
use Rattle.classes.specs.declared.sets.ClassSet.{ClassSet}

-- the first i words are written
pub record Written (ns : List ℕ) (code : ℕ) (text classes list : List ℕ) (i : ℕ) (after : List ℕ) : Type 0 where
  pub within : i ≤ length text
  pub long : length after ≡ length list
  pub content : {t : Tree} → MetBy t ns → after ≡ paste list 0 (recoded_words t code text classes) i

-- the set contains a word's class byte exactly where that meets the expression
met_at : {t : Tree} (ns classes : List ℕ) (i : ℕ) (met : Bool) → MetBy t ns → met ≡ contains ns (get_or classes i 0) → get_or classes i 0 < 256 → met ≡ meets t (get_or classes i 0)
met_at {t} ns classes i met m f b = f ∙ sym (m.entry (get_or classes i 0) b)

module _ {ns : List ℕ} {code : ℕ} {text classes list : List ℕ} where
  module _ (h : length classes ≡ length text) where
    pub written_more : {i : ℕ} {after : List ℕ} (met : Bool) (w : ℕ) → Written ns code text classes list i after → length text ≤ length list → i < length text
        → met ≡ contains ns (get_or classes i 0) → get_or classes i 0 < 256 → w ≡ recoded_word met code (get_or text i 0)
        → Written ns code text classes list (i + 1) (set after i w)
    written_more {i} {after} met w k l n f b g = record {
      within = omega arith;
      long = simp length-set k.long;
      content = λ {t} m.
          let R = recoded_words t code text classes in
          let this : w ≡ get_or R i 0 = g ∙ ap (λ (x : Bool). recoded_word x code (get_or text i 0)) (met_at ns classes i met m f b) ∙ sym (recoded_at t code text classes i h n) in
          ap (λ (x : List ℕ). set x i w) (k.content m)
          ∙ ap (λ (x : ℕ). set (paste list 0 R i) i x) this
          ∙ pasted_more list R i (omega arith) (omega (arith, recoded-length t code text classes h));
    }

pub written_all : {v : ClassSet} {code : ℕ} {text classes list : List ℕ} {i : ℕ} {after : List ℕ} → length classes ≡ length text
    → Written (numbers v) code text classes list i after → length text ≤ i → Puts v code text classes list after
written_all {v} {code} {text} {classes} {list} {i} h k l = record {
  content = λ {t} m.
      let R = recoded_words t code text classes in
      let e : i ≡ length R = omega (arith, k.within, recoded-length t code text classes h) in
      k.content m ∙ ap (λ (x : ℕ). paste list 0 R x) e ∙ pasted_all list R;
}
