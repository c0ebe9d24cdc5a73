-- What is accepted, in terms of what a file shows. Assumes nothing.
use Rattle.std.specs.Prelude.{ℕ, ◌≤◌, Bool, true, false, List, ◌↔◌, ◌≡◌, refl, ltb, length, Ok, Err, Result}
use Rattle.std.proofs.Common.{arith, sym, ◌∙◌, ap, subst, le-ltb, ltb-false}
use Rattle.pattern.specs.Laws.Accepting.{pattern-accepted}
use Rattle.basics.specs.Choice.{pick}
use Rattle.basics.specs.Written.{over}
use Rattle.pattern.specs.Tests.{Verdict, pattern_verdict}
use Rattle.pattern.specs.declared.Pattern.{Pattern}
use Rattle.pattern.specs.declared.refusal.Refusal.{Refusal}
use Rattle.pattern.specs.declared.refusal.Refusal.TheVariants.{TextLength, FileLength, WordListLength}
use Rattle.pattern.specs.Accepted.{Accepted}
use Rattle.format.specs.Texts.{TextContents, text_answer, text_contents, text_read, text_written, words}
use Rattle.format.specs.Texts.{refused as no_words}
use Rattle.format.specs.Patterns.{PatternContents, SlotLine, judged_by, pattern_contents, pattern_answer, pattern_read, refused, shown, shown_pattern}
use Rattle.format.specs.Shown.{PatternShows, TextShows}
use Rattle.format.specs.Laws.PatternShown.{pattern-shown}
use Rattle.format.specs.Laws.TextShown.{text-shown}

-- ---- patterns

-- the file shows the pattern, which is within the limits
pub record ShowsPattern (s : List ℕ) (f : Pattern) : Type 0 where
  pub short : length s ≤ 60000
  pub least : ℕ
  pub most : ℕ
  pub slots : List SlotLine
  pub shows : PatternShows s least most slots
  pub is : f ≡ shown_pattern least most slots
  pub limits : Accepted f

-- what is answered for an accepted pattern
abbrev pub accepted : Pattern → Result Pattern Refusal
accepted f = Ok f

not_accepted : {why : Refusal} {f : Pattern} → Err why ≡ accepted f → ⊥
not_accepted e = cc

same_pattern : {f g : Pattern} → accepted f ≡ accepted g → f ≡ g
same_pattern e = cc

judged_fine : (v : Verdict) (g f : Pattern) → judged_by v g ≡ accepted f → (v ≡ Ok tt) × (g ≡ f)
judged_fine (Ok tt) g f e = (refl, same_pattern e)
judged_fine (Err why) g f e = absurd (not_accepted e)

contents-shown : (s : List ℕ) (f : Pattern) → length s ≤ 60000 → (c : PatternContents) → pattern_contents s ≡ c → pattern_answer c ≡ accepted f → ShowsPattern s f
contents-shown s f h (refused why) e q = absurd (not_accepted q)
contents-shown s f h (shown least most ls) e q =
    let r = judged_fine (pattern_verdict (shown_pattern least most ls)) (shown_pattern least most ls) f q in
    record {
      short = h;
      least = least;
      most = most;
      slots = ls;
      shows = (pattern-shown s least most ls).0 e;
      is = sym r.1;
      limits = subst Accepted r.1 ((pattern-accepted (shown_pattern least most ls)).0 r.0);
    }

read_shows : (s : List ℕ) (f : Pattern) → pattern_read s ≡ accepted f → ShowsPattern s f
unfolding pattern_read
read_shows s f e = go (ltb 60000 (length s)) refl e
  where
    go : (x : Bool) → ltb 60000 (length s) ≡ x → pick x (Err FileLength) (pattern_answer (pattern_contents s)) ≡ accepted f → ShowsPattern s f
    go true t q = absurd (not_accepted q)
    go false t q = contents-shown s f (ltb-false 60000 (length s) t) (pattern_contents s) refl q

shows_read : (s : List ℕ) (f : Pattern) → ShowsPattern s f → pattern_read s ≡ accepted f
unfolding pattern_read
shows_read s f r =
    let g = shown_pattern r.least r.most r.slots in
    let v : pattern_verdict g ≡ (Ok tt) = (pattern-accepted g).1 (subst Accepted r.is r.limits) in
    rw (le-ltb 60000 (length s) r.short, (pattern-shown s r.least r.most r.slots).1 r.shows)
    (ap (λ (w : Verdict). judged_by w g) v ∙ ap accepted (sym r.is))

-- a file is read as a pattern exactly if it shows that pattern, within the limits
pub pattern_read_lem : (s : List ℕ) (f : Pattern) → (pattern_read s ≡ accepted f) ↔ ShowsPattern s f
pattern_read_lem s f = (read_shows s f, shows_read s f)

-- ---- texts

-- the file shows n words, within the limit and the room
pub record ShowsText (s : List ℕ) (room n : ℕ) : Type 0 where
  pub short : length s ≤ 60000
  pub contents : List ℕ
  pub shows : TextShows s contents
  pub count : length contents ≡ n
  pub few : n ≤ 20000
  pub fits : n ≤ room

pub not_read : {why : Refusal} {n : ℕ} → ◌≡◌ {A = Result ℕ Refusal} (Err why) (Ok n) → ⊥
not_read e = cc

counted : {m n : ℕ} → ◌≡◌ {A = Result ℕ Refusal} (Ok m) (Ok n) → m ≡ n
counted e = cc

words-shown : (s : List ℕ) (room n : ℕ) → length s ≤ 60000 → (c : TextContents) → text_contents s ≡ c → text_answer c room ≡ Ok n → ShowsText s room n
words-shown s room n h (no_words why) e q = absurd (not_read q)
words-shown s room n h (words ws) e q = go (ltb 20000 (length ws)) refl (ltb room (length ws)) refl q
  where
    go : (x : Bool) → ltb 20000 (length ws) ≡ x → (y : Bool) → ltb room (length ws) ≡ y → pick x (Err TextLength) (pick y (Err WordListLength) (Ok (length ws))) ≡ Ok n → ShowsText s room n
    go true a y b k = absurd (not_read k)
    go false a true b k = absurd (not_read k)
    go false a false b k =
        let m : length ws ≡ n = counted k in
        record {
          short = h;
          contents = ws;
          shows = (text-shown s ws).0 e;
          count = m;
          few = omega (arith, ltb-false 20000 (length ws) a);
          fits = omega (arith, ltb-false room (length ws) b);
        }

read_words : (s : List ℕ) (room n : ℕ) → text_read s room ≡ Ok n → ShowsText s room n
unfolding text_read
read_words s room n e = go (ltb 60000 (length s)) refl e
  where
    go : (x : Bool) → ltb 60000 (length s) ≡ x → pick x (Err FileLength) (text_answer (text_contents s) room) ≡ Ok n → ShowsText s room n
    go true t q = absurd (not_read q)
    go false t q = words-shown s room n (ltb-false 60000 (length s) t) (text_contents s) refl q

module _ {s : List ℕ} {room n : ℕ} (r : ShowsText s room n) where
  few_words : ltb 20000 (length r.contents) ≡ false
  few_words = le-ltb 20000 (length r.contents) (omega (arith, r.count, r.few))

  words-fit : ltb room (length r.contents) ≡ false
  words-fit = le-ltb room (length r.contents) (omega (arith, r.count, r.fits))

  words_read : text_read s room ≡ Ok n
  unfolding text_read
  words_read = rw (le-ltb 60000 (length s) r.short, (text-shown s r.contents).1 r.shows) (rw (few_words, words-fit) (ap Ok r.count))

-- a file is read as n words exactly if it shows n words, within the limit and the room
pub text_read_lem : (s : List ℕ) (room n : ℕ) → (text_read s room ≡ Ok n) ↔ ShowsText s room n
text_read_lem s room n = (read_words s room n, λ r. words_read r)

-- and then these words are written at the list's start
pub text-written : (s out : List ℕ) (n : ℕ) → (r : ShowsText s (length out) n) → text_written s out ≡ over out r.contents
unfolding text_written
text-written s out n r = rw (le-ltb 60000 (length s) r.short, (text-shown s r.contents).1 r.shows) (rw (few_words r, words-fit r))
