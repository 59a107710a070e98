-- The trees that entries stand for.
use Rattle.std.proofs.Common.{◌≡◌, ℕ, suc, ◌+◌, ◌-◌, ◌≤◌, List, [], ◌∷◌, ◌++◌, length, take, drop, refl, sym, ◌∙◌, ap, subst, arith, append_assoc, length-append, cond}
use Rattle.std.specs.Prelude.{Some, Bool, IsTrue, ◌==◌}
use Rattle.std.specs.Iterator.{MakesProgress, item_count}
use Rattle.std.proofs.lemmas.Bool.Decides.{nat_tests}
use Rattle.std.proofs.lemmas.Bool.{le-leb, lt-leb}
use Rattle.std.proofs.lemmas.List.{append-nil}
use Rattle.std.proofs.Math.Seq.{take-append_seam, drop-append_seam}
use Rattle.base_trees.specs.Rose.{Rose, node, Roses, none, more, roses_of, list_of, node_count, count_all}
use Rattle.base_trees.proofs.Roses.{list_of-roses_of, roses_of-list_of, node_count-positive}
use Rattle.base_flat_trees.specs.declared.entries.Entry.{Entry}
use Rattle.base_flat_trees.specs.Entries.{entries_of, entries_all, front, behind, forest, AreWhole}

-- as many entries as nodes
mutual
  pub length-entries_of : {L : Type 0} (t : Rose L) → length (entries_of t) ≡ node_count t
  length-entries_of (node l ts) = ap suc (length-entries_all ts)

  pub length-entries_all : {L : Type 0} (ts : Roses L) → length (entries_all ts) ≡ count_all ts
  length-entries_all none = refl
  length-entries_all (more t ts) = omega (arith, length-append (entries_of t) (entries_all ts), length-entries_of t, length-entries_all ts)

-- what is in front, and what is behind
front_here : {L : Type 0} (n : ℕ) (t : Rose L) (ts : List (Rose L)) → node_count t ≤ n → front n (t ∷ ts) ≡ t ∷ front (n - node_count t) ts
unfolding front
front_here n t ts h = ap (λ b. cond b (t ∷ front (n - node_count t) ts) []) (le-leb (node_count t) n h)

behind_here : {L : Type 0} (n : ℕ) (t : Rose L) (ts : List (Rose L)) → node_count t ≤ n → behind n (t ∷ ts) ≡ behind (n - node_count t) ts
unfolding behind
behind_here n t ts h = ap (λ b. cond b (behind (n - node_count t) ts) (t ∷ ts)) (le-leb (node_count t) n h)

front_none : {L : Type 0} (ts : List (Rose L)) → front 0 ts ≡ []
unfolding front
front_none [] = refl
front_none (t ∷ ts) = ap (λ b. cond b (t ∷ front (0 - node_count t) ts) []) (lt-leb (node_count t) 0 (node_count-positive t))

behind_none : {L : Type 0} (ts : List (Rose L)) → behind 0 ts ≡ ts
unfolding behind
behind_none [] = refl
behind_none (t ∷ ts) = ap (λ b. cond b (behind (0 - node_count t) ts) (t ∷ ts)) (lt-leb (node_count t) 0 (node_count-positive t))

pub front-all : {L : Type 0} (ts : Roses L) (us : List (Rose L)) → front (count_all ts) (list_of ts ++ us) ≡ list_of ts
front-all none us = front_none us
front-all (more t ts) us =
    let fits : node_count t ≤ node_count t + count_all ts = omega arith in
    let less : node_count t + count_all ts - node_count t ≡ count_all ts = omega arith in
    front_here (node_count t + count_all ts) t (list_of ts ++ us) fits ∙ ap (λ (n : ℕ). t ∷ front n (list_of ts ++ us)) less ∙ ap (λ ks. t ∷ ks) (front-all ts us)

pub behind-all : {L : Type 0} (ts : Roses L) (us : List (Rose L)) → behind (count_all ts) (list_of ts ++ us) ≡ us
behind-all none us = behind_none us
behind-all (more t ts) us =
    let fits : node_count t ≤ node_count t + count_all ts = omega arith in
    let less : node_count t + count_all ts - node_count t ≡ count_all ts = omega arith in
    behind_here (node_count t + count_all ts) t (list_of ts ++ us) fits ∙ ap (λ (n : ℕ). behind n (list_of ts ++ us)) less ∙ behind-all ts us

-- the trees of an entry and those that follow it
pub forest-first : {L : Type 0} (e : Entry L) (es : List (Entry L)) → forest (e ∷ es) ≡ node e.label (roses_of (front e.below (forest es))) ∷ behind e.below (forest es)
unfolding forest
forest-first e es = refl

pub forest-none : {L : Type 0} → forest {L = L} [] ≡ []
unfolding forest
forest-none = refl

-- entries of trees stand for these
mutual
  pub forest-entries_of : {L : Type 0} (t : Rose L) (es : List (Entry L)) → forest (entries_of t ++ es) ≡ t ∷ forest es
  forest-entries_of (node l ts) es =
      let below : forest (entries_all ts ++ es) ≡ list_of ts ++ forest es = forest-entries_all ts es in
      forest-first (record { label = l; below = count_all ts }) (entries_all ts ++ es)
      ∙ ap (λ fs. node l (roses_of (front (count_all ts) fs)) ∷ behind (count_all ts) fs) below
      ∙ ap (λ ks. node l (roses_of ks) ∷ behind (count_all ts) (list_of ts ++ forest es)) (front-all ts (forest es))
      ∙ ap (λ ks. node l ks ∷ behind (count_all ts) (list_of ts ++ forest es)) (roses_of-list_of ts)
      ∙ ap (λ fs. node l ts ∷ fs) (behind-all ts (forest es))

  pub forest-entries_all : {L : Type 0} (ts : Roses L) (es : List (Entry L)) → forest (entries_all ts ++ es) ≡ list_of ts ++ forest es
  forest-entries_all none es = refl
  forest-entries_all (more t ts) es =
      ap forest (append_assoc (entries_of t) (entries_all ts) es) ∙ forest-entries_of t (entries_all ts ++ es) ∙ ap (λ fs. t ∷ fs) (forest-entries_all ts es)

pub forest-of : {L : Type 0} (ts : List (Rose L)) → forest (entries_all (roses_of ts)) ≡ ts
forest-of ts =
    ap forest (sym (append-nil (entries_all (roses_of ts)))) ∙ forest-entries_all (roses_of ts) [] ∙ ap (λ fs. list_of (roses_of ts) ++ fs) forest-none
    ∙ append-nil (list_of (roses_of ts)) ∙ list_of-roses_of ts

pub whole-of : {L : Type 0} (ts : List (Rose L)) → AreWhole (entries_all (roses_of ts))
whole-of ts = ap (λ us. entries_all (roses_of us)) (sym (forest-of ts))

-- whatever entries of trees are, they are whole, and stand for these
pub forest_is : {L : Type 0} (es : List (Entry L)) (ts : List (Rose L)) → es ≡ entries_all (roses_of ts) → forest es ≡ ts
forest_is es ts e = ap forest e ∙ forest-of ts

pub whole_is : {L : Type 0} (es : List (Entry L)) (ts : List (Rose L)) → es ≡ entries_all (roses_of ts) → AreWhole es
whole_is es ts e = subst AreWhole (sym e) (whole-of ts)

-- an entry, the entries below it and those behind these
pub record Parts {L : Type 0} (es : List (Entry L)) (e : Entry L) (later : List (Entry L)) : Type 0 where
  pub within : e.below ≤ length later
  pub below : AreWhole (take e.below later)
  pub left : AreWhole (drop e.below later)
  pub first : forest es ≡ node e.label (roses_of (forest (take e.below later))) ∷ forest (drop e.below later)

parts_by : {L : Type 0} (e : Entry L) (later : List (Entry L)) (ks us : List (Rose L)) → forest (e ∷ later) ≡ node e.label (roses_of ks) ∷ us → AreWhole (e ∷ later) → Parts (e ∷ later) e later
parts_by {L = L} e later ks us is whole =
    let all : e ∷ later ≡ record { label = e.label; below = count_all (roses_of ks) } ∷ (entries_all (roses_of ks) ++ entries_all (roses_of us)) = whole ∙ ap (λ ts. entries_all (roses_of ts)) is in
    let rest : later ≡ entries_all (roses_of ks) ++ entries_all (roses_of us) = (cc) in
    let here : e ≡ record { label = e.label; below = count_all (roses_of ks) } = (cc) in
    let long : e.below ≡ length (entries_all (roses_of ks)) = ap (λ (x : Entry L). x.below) here ∙ sym (length-entries_all (roses_of ks)) in
    let taken : take e.below later ≡ entries_all (roses_of ks) = ap (λ (n : ℕ). take n later) long ∙ ap (take (length (entries_all (roses_of ks)))) rest ∙ take-append_seam (entries_all (roses_of ks)) (entries_all (roses_of us)) in
    let dropped : drop e.below later ≡ entries_all (roses_of us) = ap (λ (n : ℕ). drop n later) long ∙ ap (drop (length (entries_all (roses_of ks)))) rest ∙ drop-append_seam (entries_all (roses_of ks)) (entries_all (roses_of us)) in
    record {
      within = omega (arith, long, ap length rest, length-append (entries_all (roses_of ks)) (entries_all (roses_of us)));
      below = whole_is (take e.below later) ks taken;
      left = whole_is (drop e.below later) us dropped;
      first = is ∙ ap (λ ts. node e.label (roses_of ts) ∷ us) (sym (forest_is (take e.below later) ks taken)) ∙ ap (λ ts. node e.label (roses_of (forest (take e.below later))) ∷ ts) (sym (forest_is (drop e.below later) us dropped));
    }

pub parts : {L : Type 0} (es : List (Entry L)) (e : Entry L) (later : List (Entry L)) → es ≡ e ∷ later → AreWhole es → Parts es e later
parts es e later is whole =
    subst (λ xs. Parts xs e later) (sym is) (parts_by e later (front e.below (forest later)) (behind e.below (forest later)) (forest-first e later) (subst AreWhole is whole))

-- the number of nodes below is that of the entries
pub count_below : {L : Type 0} (es : List (Entry L)) → AreWhole es → count_all (roses_of (forest es)) ≡ length es
count_below es whole = sym (ap length whole ∙ length-entries_all (roses_of (forest es)))

-- no entries, no trees
pub forest_empty : {L : Type 0} (es : List (Entry L)) → length es ≡ 0 → forest es ≡ []
forest_empty [] h = forest-none
forest_empty (e ∷ es) h = absurd (omega (arith, h))

pub empty_forest : {L : Type 0} (es : List (Entry L)) → AreWhole es → forest es ≡ [] → length es ≡ 0
empty_forest es whole h = ap length (whole ∙ ap (λ ts. entries_all (roses_of ts)) h)

pub empty_test : (n : ℕ) (b : Bool) → b ≡ (n == 0) → IsTrue b → n ≡ 0
empty_test n b e h = grind (arith, nat_tests)

pub test_empty : (n : ℕ) (b : Bool) → b ≡ (n == 0) → n ≡ 0 → IsTrue b
test_empty n b e h = e ∙ ap (λ (m : ℕ). m == 0) h

-- the next tree, from the fields
pub next_is : {L : Type 0} (now : List (Rose L)) (es : List (Entry L)) (e : Entry L) (later below left : List (Entry L)) → forest es ≡ now → es ≡ e ∷ later → AreWhole es → below ≡ take e.below later → left ≡ drop e.below later
    → now ≡ node e.label (roses_of (forest below)) ∷ forest left
next_is now es e later below left view is whole b l =
    sym view ∙ (parts es e later is whole).first ∙ ap (λ xs. node e.label (roses_of (forest xs)) ∷ forest (drop e.below later)) (sym b) ∙ ap (λ xs. node e.label (roses_of (forest below)) ∷ forest xs) (sym l)

-- fewer are left
pub goes : {L : Type 0} (now : List (Rose L)) (x : Rose L) (left : List (Rose L)) → now ≡ x ∷ left → MakesProgress (λ _. Unit {0}) (item_count (λ (k : List (Rose L)). k)) now (Some x) left
goes now x left h = record { on = λ _. (tt, tt, omega (arith, ap length h)); keeps = tt; rests = λ _. tt }
