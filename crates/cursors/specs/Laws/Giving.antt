-- What a call of "next" gives and what it leaves alone.
use Rattle.std.specs.Prelude.{ℕ, ◌-◌, ◌≤◌, ◌≡◌, refl, List, length, take, drop, replicate, Some, Ok, Err}
use Rattle.std.proofs.Common.{sym, ap, ◌∙◌}
use Rattle.std.proofs.Math.Option.{Option as Found, none, some}
use Rattle.std.proofs.Math.Seq.{take-append_seam}
use Rattle.pattern.specs.declared.Pattern.{Pattern}
use Rattle.matching.specs.Occurrence.{plain}
use Rattle.matching.specs.Searches.{earliest, Earliest}
use Rattle.matching.specs.Answers.{sixteen}
use Rattle.matching.proofs.Laws.Extremes.{earliest_some}
use Rattle.cursors.specs.declared.Cursors.{Cursors}
use Rattle.cursors.specs.declared.Client.{Client}
use Rattle.cursors.specs.Machine.{client_of, moved, client_verdict, next_verdict, first_marks, next_row, served_by, next_served, rewound_by, rewound}
use Rattle.cursors.specs.Laws.Admitting.{admitted}
use Rattle.pattern.specs.Tests.{Verdict}

-- ---- what is given is the first occurrence past the client's marks

pub first_sixteen : (row : List ℕ) {m : ℕ} → length row ≡ m → take m (sixteen row) ≡ row
first_sixteen row e = ap (λ (k : ℕ). take k (sixteen row)) (sym e) ∙ take-append_seam row (replicate (16 - length row) 0)

nearest_by : (v : Verdict) (o : Found (List ℕ)) (s : Cursors) (client : ℕ) (f : Pattern) (t marks : List ℕ) {places : List ℕ} → (v ≡ Ok tt → 1 ≤ f.count) → earliest f t marks ≡ o
    → (served_by v o s client).answer ≡ Ok (Some places) → Earliest f t marks (take f.count places)
nearest_by (Ok tt) (some row) s client f t marks {places} h e q =
    let nearest = (earliest_some f (plain f t) (h refl) marks row).0 e in
    let given : sixteen row ≡ places = cc in
    rw (sym given, first_sixteen row nearest.hit.size) nearest
nearest_by (Ok tt) none s client f t marks h e q = absurd (cc)
nearest_by (Err why) o s client f t marks h e q = absurd (cc)

pub next_nearest : (s : Cursors) (client : ℕ) (f : Pattern) (t : List ℕ) {places : List ℕ} → (next_served s client f t).answer ≡ Ok (Some places)
    → Earliest f t (first_marks (client_of s client) f) (take f.count places)
unfolding next_served
next_nearest s client f t q =
    let asking = client_of s client in
    nearest_by (next_verdict f (length t) client asking.served) (next_row asking f t) s client f t (first_marks asking f) (λ e. (admitted e).some) refl q

-- the client's first marks are then the occurrence
pub moved_first : (f : Pattern) (row : List ℕ) (before : Client) → length row ≡ f.count → first_marks (moved row before) f ≡ row
moved_first f row before size = ap (λ (m : ℕ). take m (moved row before).marks) (sym size) ∙ take-append_seam row (drop (length row) before.marks)

-- ---- what changes nothing

kept_by_lem : (v : Verdict) (o : Found (List ℕ)) (s : Cursors) (client : ℕ) → ((places : List ℕ) → (served_by v o s client).answer ≡ Ok (Some places) → ⊥) → (served_by v o s client).cursors ≡ s
kept_by_lem (Ok tt) (some row) s client h = absurd (h (sixteen row) refl)
kept_by_lem (Ok tt) none s client h = refl
kept_by_lem (Err why) o s client h = refl

-- "none" and a refusal
pub next_kept : (s : Cursors) (client : ℕ) (f : Pattern) (t : List ℕ) → ((places : List ℕ) → (next_served s client f t).answer ≡ Ok (Some places) → ⊥) → (next_served s client f t).cursors ≡ s
unfolding next_served
next_kept s client f t h = kept_by_lem (next_verdict f (length t) client (client_of s client).served) (next_row (client_of s client) f t) s client h

rewound_by_lem : (v : Verdict) (s : Cursors) (client : ℕ) → ((rewound_by v s client).verdict ≡ Ok tt → ⊥) → (rewound_by v s client).cursors ≡ s
rewound_by_lem (Ok tt) s client h = absurd (h refl)
rewound_by_lem (Err why) s client h = refl

pub rewind_kept : (s : Cursors) (client : ℕ) → ((rewound s client).verdict ≡ Ok tt → ⊥) → (rewound s client).cursors ≡ s
unfolding rewound
rewind_kept s client h = rewound_by_lem (client_verdict client) s client h
