-- The law of encoding instructions in the order of their ranks.
use Rattle.std.proofs.Common.{◌≡◌, ◌==◌, ℕ, suc, ◌+◌, ◌<◌, ◌≤◌, Bool, true, false, ◌&&◌, nat_le, List, [], ◌∷◌, ◌++◌, length, refl, sym, ap, ◌∙◌, subst, arith, Option, None, append_assoc, length-append, All}
use Rattle.std.specs.List.{flat_map}
use Rattle.std.proofs.lemmas.Bool.{eqb-true, eqb-false, leb-true, le-leb}
use Rattle.std.proofs.lemmas.List.Elements.{All-nil, All-cons, All-head, All-tail}
use Rattle.module_grammar.specs.Reading.{Reader}
use Rattle.module_grammar.specs.Shapes.{Sunk, AnyRest, Anything, never, IsUnread, deeper, EachFine, each_written, each_deep}
use Rattle.module_grammar.specs.Laws.{Law}
use Rattle.module_grammar.proofs.WordLaws.{nothing_law}
use Rattle.module_grammar.proofs.Then.{then_law}
use Rattle.module_grammar.proofs.Many.{many_law}
use Rattle.module_grammar.proofs.As.{as_law, any_follow}
use Rattle.module_grammar.specs.MarkReading.{ranked_at, no_marks, no_marks_at}
use Rattle.module_grammar.proofs.Booleans.{both, and_true}
use Rattle.module_grammar.proofs.NameLaws.{each_never}

cons_is : {M : Type 0} (m n : M) (ms ns : List M) → (m ∷ ms) ≡ (n ∷ ns) → (m ≡ n) × (ms ≡ ns)
cons_is m n ms ns e = ((cc), (cc))

module _ {M : Type 0} (rank : M → ℕ) (text : M → List ℕ) (IsMark : M → Type 0) (put : ℕ → M → M) (placed : ℕ → List M → List M) (from : ℕ → List M → Bool)
    (placed_none : (place : ℕ) → placed place [] ≡ []) (placed_more : (place : ℕ) (m : M) (ms : List M) → placed place (m ∷ ms) ≡ put place m ∷ placed (place + length (text m)) ms)
    (from_none : (least : ℕ) → from least [] ≡ true) (from_more : (least : ℕ) (m : M) (ms : List M) → from least (m ∷ ms) ≡ (nat_le least (rank m) && from (rank m) ms)) where
  -- marks of this rank and of higher ones, each where it is said to stand
  pub record Ranked (least place : ℕ) (ms : List M) : Type 0 where
    pub ranks : from least ms ≡ true
    pub all : All IsMark ms
    pub places : placed place ms ≡ ms

  pub record OfRank (k place : ℕ) (m : M) : Type 0 where
    pub rank_is : rank m ≡ k
    pub mark : IsMark m
    pub here : put place m ≡ m

  abbrev pub marks_text : List M → List ℕ
  marks_text ms = flat_map text ms

  ranked_none : (least place : ℕ) → Ranked least place []
  ranked_none least place = record { ranks = from_none least; all = All-nil IsMark; places = placed_none place }

  head_of : (least place : ℕ) (m : M) (ms : List M) → Ranked least place (m ∷ ms) → (least ≤ rank m) × IsMark m × (put place m ≡ m) × Ranked (rank m) (place + length (text m)) ms
  head_of least place m ms h =
      let r = both (nat_le least (rank m)) (from (rank m) ms) (sym (from_more least m ms) ∙ h.ranks) in
      let p = cons_is (put place m) m (placed (place + length (text m)) ms) ms (sym (placed_more place m ms) ∙ h.places) in
      (leb-true least (rank m) r.0, All-head IsMark m ms h.all, p.0, record { ranks = r.1; all = All-tail IsMark m ms h.all; places = p.1 })

  with_head : (least place : ℕ) (m : M) (ms : List M) → least ≤ rank m → IsMark m → put place m ≡ m → Ranked (rank m) (place + length (text m)) ms → Ranked least place (m ∷ ms)
  with_head least place m ms le f e h = record {
    ranks = from_more least m ms ∙ and_true (nat_le least (rank m)) (from (rank m) ms) (le-leb least (rank m) le) h.ranks;
    all = All-cons IsMark m ms f h.all;
    places = placed_more place m ms ∙ ap (λ k. k ∷ placed (place + length (text m)) ms) e ∙ ap (λ l. m ∷ l) h.places;
  }

  lower : (least place : ℕ) (ms : List M) → Ranked (suc least) place ms → Ranked least place ms
  lower least place [] h = ranked_none least place
  lower least place (m ∷ ms) h = let g = head_of (suc least) place m ms h in with_head least place m ms (omega (arith, g.0)) g.1 g.2 g.3

  further : (place : ℕ) (m : M) (l : List ℕ) → (place + length (text m)) + length l ≡ place + length (text m ++ l)
  further place m l = omega (arith, length-append (text m) l)

  join_ranked : (k place : ℕ) (xs ys : List M) → EachFine (OfRank k) text place xs → Ranked (suc k) (place + length (each_written text xs)) ys → Ranked k place (xs ++ ys)
  join_ranked k place [] ys f g = lower k place ys (subst (λ p. Ranked (suc k) p ys) (omega arith) g)
  join_ranked k place (x ∷ xs) ys f g =
      let rest = join_ranked k (place + length (text x)) xs ys f.1 (subst (λ p. Ranked (suc k) p ys) (sym (further place x (each_written text xs))) g) in
      with_head k place x (xs ++ ys) (omega (arith, f.0.rank_is)) f.0.mark f.0.here (subst (λ r. Ranked r (place + length (text x)) (xs ++ ys)) (sym f.0.rank_is) rest)

  split_ranked : (k place : ℕ) (ms : List M) → Ranked k place ms → (xs ys : List M) × EachFine (OfRank k) text place xs × Ranked (suc k) (place + length (each_written text xs)) ys × (xs ++ ys ≡ ms)
  split_ranked k place [] h = ([], [], tt, ranked_none (suc k) (place + 0), refl)
  split_ranked k place (m ∷ ms) h = cases (rank m == k) refl (head_of k place m ms h) (split_ranked k (place + length (text m)) ms)
    where
      cases : (t : Bool) → (rank m == k) ≡ t → (k ≤ rank m) × IsMark m × (put place m ≡ m) × Ranked (rank m) (place + length (text m)) ms
          → (Ranked k (place + length (text m)) ms → (xs ys : List M) × EachFine (OfRank k) text (place + length (text m)) xs × Ranked (suc k) ((place + length (text m)) + length (each_written text xs)) ys × (xs ++ ys ≡ ms))
          → (xs ys : List M) × EachFine (OfRank k) text place xs × Ranked (suc k) (place + length (each_written text xs)) ys × (xs ++ ys ≡ (m ∷ ms))
      cases true e g more =
          let same : rank m ≡ k = eqb-true (rank m) k e in
          let r = more (subst (λ j. Ranked j (place + length (text m)) ms) same g.3) in
          (m ∷ r.0, r.1, (record { rank_is = same; mark = g.1; here = g.2 }, r.2), subst (λ p. Ranked (suc k) p r.1) (further place m (each_written text r.0)) r.3, ap (λ l. m ∷ l) r.4)
      cases false e g more =
          ([], m ∷ ms, tt, subst (λ p. Ranked (suc k) p (m ∷ ms)) (omega arith) (with_head (suc k) place m ms (omega (arith, g.0, eqb-false (rank m) k e)) g.1 g.2 g.3), refl)

  joined_text : (xs ys : List M) → marks_text (xs ++ ys) ≡ each_written text xs ++ marks_text ys
  joined_text [] ys = refl
  joined_text (x ∷ xs) ys = ap (λ l. text x ++ l) (joined_text xs ys) ∙ sym (append_assoc (text x) (each_written text xs) (marks_text ys))

  pub ranked_law : (k : ℕ) (Follow : List ℕ → Type 0) (read : Reader M) (others : Reader (List M))
      → Law (OfRank k) never text AnyRest read
      → ((place : ℕ) (m : M) → OfRank k place m → 0 < length (text m))
      → Law (Ranked (suc k)) never marks_text Follow others
      → ((place : ℕ) (ms : List M) (rest : List ℕ) → Ranked (suc k) place ms → Follow rest → IsUnread read (marks_text ms ++ rest))
      → Law (Ranked k) never marks_text Follow (ranked_at read others)
  ranked_law k Follow read others law some other apart = as_law
      (then_law {Follow = Follow} (many_law law some (λ place m rest f g. tt)) (λ place xs f. other) (λ place here xs f. ([], ranked_none (suc k) here))
      (λ place here xs ys rest f g h. record { item = tt; fails = apart here ys rest g h }) (λ place here xs ys rest f g h. h))
      (record {
        fine = λ place x f. join_ranked k place x.0 x.1 f.0 f.1;
        deep = λ place x f. sym (none_both (length (each_written text x.0)) (each_deep text never x.0) (each_never text never (λ m. refl) x.0));
        write = λ place x f. joined_text x.0 x.1;
        onto = λ place ms f. let r = split_ranked k place ms f in ((r.0, r.1), (r.2, r.3), r.4);
      })
    where
      none_both : (size : ℕ) (d : Option Sunk) → d ≡ None → deeper size d None ≡ None
      none_both size d e = ap (λ k. deeper size k None) e

  -- no rank is so high
  pub no_marks_law : (k : ℕ) (Follow : List ℕ → Type 0) → ((m : M) → k ≤ rank m → ⊥) → Law (Ranked k) never marks_text Follow no_marks_at
  no_marks_law k Follow high = as_law (any_follow {Follow = Follow} nothing_law (λ rest h. tt))
      (record { fine = λ place x f. ranked_none k place; deep = λ place x f. refl; write = λ place x f. refl; onto = onto })
    where
      onto : (place : ℕ) (ms : List M) → Ranked k place ms → (x : Unit {0}) × Anything place x × (no_marks place x ≡ ms)
      onto place [] h = (tt, tt, refl)
      onto place (m ∷ ms) h = absurd (high m (head_of k place m ms h).0)
