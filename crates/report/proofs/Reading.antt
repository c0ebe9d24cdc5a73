-- What is read, as the specification has it.
use Prim.Native.Nat.{ℕ, ◌+◌, ◌-◌, ◌≤◌, ◌<◌, min}
use native.Mathlib.Omega.{arith}
use mathlib.Core.Path.{◌≡◌, refl, sym, ap, ◌∙◌}
use mathlib.Core.Bool.{Bool, true, false}
use mathlib.Core.List.{List}
use lib.Dec.{ltb}
use lib.ListN.{length, take, drop, replicate, length-drop, length-replicate, drop_of_length-le}
use lib.Seq.{take_all}
use borrow.Author.Tests.{le-ltb, lt-ltb, ltb-false, ltb-true}
use Rattle.std.specs.Prelude.{Result, Ok, Err}
use Rattle.format.specs.declared.input.Input.{Input}
use Rattle.pattern.specs.declared.refusal.Refusal.{Refusal}
use Rattle.pattern.specs.declared.refusal.Refusal.TheVariants.{FileLength}
use Rattle.format.specs.Input.{input_read, input_written}
use Rattle.format.specs.Texts.{shown_words, text_contents}
use Rattle.format.specs.Laws.Input.{input_read_lem}
use Rattle.report.specs.Files.{parted}
use Rattle.report.specs.Lines.{refusal_report}
use Rattle.report.specs.Report.{files_report, reported, search_report}

-- ---- what is reported

module _ (p t out : List ℕ) (size : length out ≡ 20000) {r : Result Input Refusal} (read : r ≡ input_read p t (length out)) where
  room : r ≡ input_read p t 20000
  room = read ∙ ap (input_read p t) size

  refused_of : {why : Refusal} → r ≡ Err why → refusal_report why ≡ files_report p t
  unfolding files_report
  refused_of e = rw (← room, e)

  words_of : (i : Input) {after : List ℕ} → r ≡ Ok i → after ≡ input_written p t out → search_report i.pattern (take i.words after) ≡ files_report p t
  unfolding files_report
  words_of i {after} e w =
      let q : input_read p t (length out) ≡ Ok i = sym read ∙ e in
      let ws : take i.words after ≡ shown_words (text_contents t) = ap (take i.words) w ∙ (input_read_lem p t out i q).start in
      rw (← room, e, ws)

  fit_of : (i : Input) → r ≡ Ok i → i.words ≤ 20000
  fit_of i e = omega (arith, (input_read_lem p t out i (sym read ∙ e)).fits)

-- a new list of 20,000 words
abbrev pub new : List ℕ
new = replicate 20000 0

new_size : length new ≡ 20000
new_size = length-replicate {A = ℕ} 20000 0

module _ (p t : List ℕ) {r : Result Input Refusal} (read : r ≡ input_read p t (length new)) where
  pub read_fits : (i : Input) → r ≡ Ok i → i.words ≤ 20000
  read_fits i e = fit_of p t new new_size read i e

  -- a refusal is handed on
  pub read_refused : {why : Refusal} → r ≡ Err why → refusal_report why ≡ files_report p t
  read_refused e = refused_of p t new new_size read e

  -- the words read are searched
  pub read_words : (i : Input) {after : List ℕ} → r ≡ Ok i → after ≡ input_written p t new → search_report i.pattern (take i.words after) ≡ files_report p t
  read_words i e w = words_of p t new new_size read i e w

-- ---- the whole input

pub long_input : (input : List ℕ) → 60000 < length input → refusal_report FileLength ≡ reported input
unfolding reported
long_input input h = rw (lt-ltb 60000 (length input) h)

text-part : (input : List ℕ) (e start : ℕ) → start ≡ min (e + 1) (length input) → take (length input - start) (drop start input) ≡ drop (e + 1) input
text-part input e start s =
    take_all (length input - start) (drop start input) (omega (arith, length-drop start input)) ∙ go (ltb (length input) (e + 1)) refl
  where
    go : (x : Bool) → ltb (length input) (e + 1) ≡ x → drop start input ≡ drop (e + 1) input
    go true b =
        let l : length input ≤ e + 1 = omega (arith, ltb-true (length input) (e + 1) b) in
        let m : length input ≤ start = omega arith in
        drop_of_length-le input m ∙ sym (drop_of_length-le input l)
    go false b = let k : start ≡ e + 1 = omega (arith, ltb-false (length input) (e + 1) b) in ap (λ (n : ℕ). drop n input) k

pub input-parted : (input : List ℕ) (e start : ℕ) → length input ≤ 60000 → e ≡ parted input → start ≡ min (e + 1) (length input)
    → files_report (take e input) (take (length input - start) (drop start input)) ≡ reported input
unfolding reported
input-parted input e start h p s = rw (le-ltb 60000 (length input) h, text-part input e start s, p)
