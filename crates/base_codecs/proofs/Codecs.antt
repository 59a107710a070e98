-- Readers and writers put together.
use Rattle.std.proofs.Common.{◌≡◌, ℕ, suc, ◌+◌, ◌-◌, ◌<◌, ◌≤◌, Bool, true, false, ltb, List, [], ◌++◌, length, refl, sym, ap, ◌∙◌, subst, arith, append_assoc, take, drop, Result, Ok, Err, inl, inr, ◌⊎◌}
use Rattle.std.proofs.lemmas.Bool.{le-ltb, ltb-false}
use Rattle.std.proofs.lemmas.List.{length-append, length-drop, length-take-le, take-append-drop, drop-drop, drop_at, take_at, append-nil, drop_all, drop-take}
use Rattle.base_codecs.specs.declared.spots.Spot.{Spot}
use Rattle.base_codecs.specs.Reading.{◌>>=◌, Reader, Writer, then_write, moved, stop_if, with_spot, window_at, ended_at, left_at, entered_at}
use Rattle.base_codecs.specs.Codec.{most_nodes, Taken, Stands, Came, CodecBefore, Codec, Filling, IsThere, ExactlyOne}

pub bind_ok : {S A B : Type 0} (r : Result A S) (f : A → Result B S) (y : B) → (r >>= f) ≡ Ok y → (x : A) × (r ≡ Ok x) × (f x ≡ Ok y)
bind_ok (Ok x) f y e = (x, refl, e)
bind_ok (Err d) f y e = absurd cc

-- a test that found no fault
pub stop_ok : {S A : Type 0} (b : Bool) (d : S) (x : Result A S) (y : A) → stop_if b d x ≡ Ok y → (b ≡ false) × (x ≡ Ok y)
stop_ok true d x y e = absurd cc
stop_ok false d x y e = (refl, e)

pub stop_not : {S A : Type 0} (b : Bool) (d : S) (x : Result A S) → b ≡ false → stop_if b d x ≡ x
stop_not b d x e = ap (λ c. stop_if c d x) e

abbrev done : {S A : Type 0} → A → Result A S
done x = Ok x

pub ok_is : {S A : Type 0} (x y : A) → done {S = S} x ≡ done y → x ≡ y
ok_is x y e = cc

abbrev pub spot : ℕ → ℕ → Spot
spot at nodes = record { at = at; nodes = nodes }

pub same_spot : (m n k l : ℕ) → m ≡ n → k ≡ l → spot m k ≡ spot n l
same_spot m n k l p q = ap (λ m. spot m k) p ∙ ap (λ k. spot n k) q

module _ {E : Type 0} where
  pub taken-then : (X : List E) (p q r : ℕ) (a b : List E) → Taken X p q a → Taken X q r b → Taken X p r (a ++ b)
  taken-then X p q r a b h k = record {
    parts = h.parts ∙ ap (λ m. a ++ m) k.parts ∙ sym (append_assoc a b (drop r X));
    end = omega (arith, h.end, k.end, length-append a b);
    inside = k.inside;
  }

  pub came-then : (X : List E) (p q r : Spot) (a b : List E) (m n : ℕ) → Came X p q a m → Came X q r b n → Came X p r (a ++ b) (m + n)
  came-then X p q r a b m n h k = record {
    taken = taken-then X p.at q.at r.at a b h.taken k.taken;
    nodes = omega (arith, h.nodes, k.nodes);
    few = λ e. k.few (h.few e);
  }

  pub behind : (X : List E) (p : ℕ) (found rest : List E) → Stands X p found rest → Stands X (p + length found) rest []
  behind X p found rest h =
      let long : length X - p ≡ length found + length rest = sym (length-drop p X) ∙ ap length h.is ∙ length-append found rest in
      record { inside = omega (arith, h.inside); is = sym (drop-drop (length found) p X) ∙ ap (drop (length found)) h.is ∙ drop_at found rest (length found) refl ∙ sym (append-nil rest) }

  pub split : (X : List E) (p : ℕ) (a b rest : List E) → Stands X p (a ++ b) rest → Stands X p a (b ++ rest) × Stands X (p + length a) b rest
  split X p a b rest h =
      let first : Stands X p a (b ++ rest) = record { inside = h.inside; is = h.is ∙ append_assoc a b rest } in
      let second = behind X p a (b ++ rest) first in
      (first, record { inside = second.inside; is = second.is ∙ append-nil (b ++ rest) })

  pub moved-again : (s : Spot) (a b : List E) (m n : ℕ) → moved (moved s (length a) m) (length b) n ≡ moved s (length (a ++ b)) (m + n)
  moved-again s a b m n = same_spot _ _ _ _ (omega (arith, length-append a b)) (omega arith)

-- ONE AFTER THE OTHER, where the second tells the first, and knows where the first began
module _ {E S A B : Type 0} (Fine Rest : List E → Type 0) (VA : A → Type 0) (wa : A → ℕ) (write_a : A → Writer E) (read_a : Reader E S A)
    (VB : B → Type 0) (wb : B → ℕ) (write_b : B → Writer E) (read_b : Spot → A → Reader E S B) (first : B → A) where
  pub then_codec : Codec Fine VA wa write_a read_a → ((b : B) → VB b → VA (first b)) → ((s : Spot) (a : A) → VA a → CodecBefore Fine Rest (λ b. VB b × (first b ≡ a)) wb write_b (read_b s a))
      → CodecBefore Fine Rest VB (λ b. wa (first b) + wb b) (λ b p. then_write (write_a (first b) p) (write_b b) p) (λ X s. read_a X s >>= λ a. read_b s a.0 X a.1)
  then_codec one valid other = record { again = again; takes = takes }
    where
      again : (X rest : List E) (s : Spot) (b : B) → Rest rest → VB b → s.nodes + (wa (first b) + wb b) ≤ most_nodes → Stands X s.at (then_write (write_a (first b) s.at) (write_b b) s.at) rest
          → (read_a X s >>= λ a. read_b s a.0 X a.1) ≡ Ok (b, moved s (length (then_write (write_a (first b) s.at) (write_b b) s.at)) (wa (first b) + wb b))
      again X rest s b follows v few h =
          let f = write_a (first b) s.at in
          let r = moved s (length f) (wa (first b)) in
          let g = write_b b r.at in
          let p = split X s.at f g rest h in
          rw (one.again X (g ++ rest) s (first b) tt (valid b v) (omega (arith, few)) p.0)
          ((other s (first b) (valid b v)).again X rest r b follows (v, refl) (omega (arith, few)) p.1 ∙ ap (λ m. Ok (b, m)) (moved-again s f g (wa (first b)) (wb b)))

      takes : (X : List E) (s : Spot) (x : B × Spot) → Fine X → s.at ≤ length X → (read_a X s >>= λ a. read_b s a.0 X a.1) ≡ Ok x
          → Came X s x.1 (then_write (write_a (first x.0) s.at) (write_b x.0) s.at) (wa (first x.0) + wb x.0) × VB x.0 × Rest (drop x.1.at X)
      takes X s x fine inside e =
          let a = bind_ok (read_a X s) (λ a. read_b s a.0 X a.1) x e in
          let k = one.takes X s a.0 fine inside a.1 in
          let l = (other s a.0.0 k.1).takes X a.0.1 x fine k.0.taken.inside a.2 in
          let at : a.0.1.at ≡ s.at + length (write_a a.0.0 s.at) = k.0.taken.end in
          let all : Came X s x.1 (write_a a.0.0 s.at ++ write_b x.0 (s.at + length (write_a a.0.0 s.at))) (wa a.0.0 + wb x.0) =
          came-then X s a.0.1 x.1 (write_a a.0.0 s.at) (write_b x.0 (s.at + length (write_a a.0.0 s.at))) (wa a.0.0) (wb x.0) k.0 (subst (λ n. Came X a.0.1 x.1 (write_b x.0 n) (wb x.0)) at l.0) in
          (subst (λ c. Came X s x.1 (then_write (write_a c s.at) (write_b x.0) s.at) (wa c + wb x.0)) (sym l.1.1) all, l.1.0, l.2)

-- what was read, tested or told in another form
module _ {E S A B : Type 0} (Fine Rest : List E → Type 0) (VA : A → Type 0) (wa : A → ℕ) (write_a : A → Writer E) (read_a : Reader E S A) (VB : B → Type 0) (from : B → A)
    (check : Spot → A × Spot → Result (B × Spot) S) where
  pub check_codec : CodecBefore Fine Rest VA wa write_a read_a → ((s r : Spot) (b : B) → VB b → VA (from b) × (check s (from b, r) ≡ Ok (b, r)))
      → ((s : Spot) (x : A × Spot) (y : B × Spot) → VA x.0 → check s x ≡ Ok y → VB y.0 × (from y.0 ≡ x.0) × (y.1 ≡ x.1))
      → CodecBefore Fine Rest VB (λ b. wa (from b)) (λ b. write_a (from b)) (λ X s. read_a X s >>= check s)
  check_codec one pass back = record { again = again; takes = takes }
    where
      again : (X rest : List E) (s : Spot) (b : B) → Rest rest → VB b → s.nodes + wa (from b) ≤ most_nodes → Stands X s.at (write_a (from b) s.at) rest
          → (read_a X s >>= check s) ≡ Ok (b, moved s (length (write_a (from b) s.at)) (wa (from b)))
      again X rest s b follows v few h =
          let r = moved s (length (write_a (from b) s.at)) (wa (from b)) in
          rw (one.again X rest s (from b) follows (pass s r b v).0 few h) (pass s r b v).1

      takes : (X : List E) (s : Spot) (x : B × Spot) → Fine X → s.at ≤ length X → (read_a X s >>= check s) ≡ Ok x → Came X s x.1 (write_a (from x.0) s.at) (wa (from x.0)) × VB x.0 × Rest (drop x.1.at X)
      takes X s x fine inside e =
          let a = bind_ok (read_a X s) (check s) x e in
          let k = one.takes X s a.0 fine inside a.1 in
          let f = back s a.0 x k.1 a.2 in
          (subst (λ r. Came X s r (write_a (from x.0) s.at) (wa (from x.0))) (sym f.2) (subst (λ c. Came X s a.0.1 (write_a c s.at) (wa c)) (sym f.1) k.0), f.0, subst (λ (r : Spot). Rest (drop r.at X)) (sym f.2) k.2)

module _ {E S A B : Type 0} (Fine Rest : List E → Type 0) (VA : A → Type 0) (wa : A → ℕ) (write_a : A → Writer E) (read_a : Reader E S A) (VB : B → Type 0) (to : A → B) (from : B → A) where
  pub map_codec : CodecBefore Fine Rest VA wa write_a read_a → ((a : A) → VA a → VB (to a) × (from (to a) ≡ a)) → ((b : B) → VB b → VA (from b) × (to (from b) ≡ b))
      → CodecBefore Fine Rest VB (λ b. wa (from b)) (λ b. write_a (from b)) (λ X s. read_a X s >>= λ a. with_spot (to a.0) a.1)
  map_codec one forth back =
      check_codec Fine Rest VA wa write_a read_a VB from (λ s a. with_spot (to a.0) a.1) one
      (λ s r b v. ((back b v).0, ap (λ m. with_spot m r) (back b v).1))
      (λ s x y v e.
      let same = ok_is (to x.0, x.1) y e in
      let f = forth x.0 v in
      subst (λ (z : B × Spot). VB z.0 × (from z.0 ≡ x.0) × (z.1 ≡ x.1)) same (f.0, f.1, refl))

-- with a test behind it
module _ {E S A : Type 0} (Fine Rest : List E → Type 0) (V : A → Type 0) (w : A → ℕ) (write : A → Writer E) (read : Reader E S A) (is_bad : A → Bool) (stop : Spot → A × Spot → S) where
  pub tested_codec : CodecBefore Fine Rest V w write read → CodecBefore Fine Rest (λ a. V a × (is_bad a ≡ false)) w write (λ X s. read X s >>= λ a. stop_if (is_bad a.0) (stop s a) (Ok a))
  tested_codec one =
      check_codec Fine Rest V w write read (λ a. V a × (is_bad a ≡ false)) (λ a. a) (λ s a. stop_if (is_bad a.0) (stop s a) (Ok a)) one
      (λ s r a v. (v.0, rw v.1 refl))
      (λ s x y v e.
      let g = stop_ok (is_bad x.0) (stop s x) (Ok x) y e in
      subst (λ (z : A × Spot). (V z.0 × (is_bad z.0 ≡ false)) × (z.0 ≡ x.0) × (z.1 ≡ x.1)) (ok_is x y g.1) ((v, g.0), refl, refl))

  -- or with two
  module _ (is_worse : A → Bool) (halt : Spot → A × Spot → S) where
    pub twice_tested_codec : CodecBefore Fine Rest V w write read
        → CodecBefore Fine Rest (λ a. V a × (is_bad a ≡ false) × (is_worse a ≡ false)) w write (λ X s. read X s >>= λ a. stop_if (is_bad a.0) (stop s a) (stop_if (is_worse a.0) (halt s a) (Ok a)))
    twice_tested_codec one =
        check_codec Fine Rest V w write read (λ a. V a × (is_bad a ≡ false) × (is_worse a ≡ false)) (λ a. a) (λ s a. stop_if (is_bad a.0) (stop s a) (stop_if (is_worse a.0) (halt s a) (Ok a))) one
        (λ s r a v. (v.0, rw v.1 (rw v.2 refl)))
        (λ s x y v e.
        let g = stop_ok (is_bad x.0) (stop s x) (stop_if (is_worse x.0) (halt s x) (Ok x)) y e in
        let h = stop_ok (is_worse x.0) (halt s x) (Ok x) y g.1 in
        subst (λ (z : A × Spot). (V z.0 × (is_bad z.0 ≡ false) × (is_worse z.0 ≡ false)) × (z.0 ≡ x.0) × (z.1 ≡ x.1)) (ok_is x y h.1) ((v, g.0, h.0), refl, refl))

-- the same, said in other words
module _ {E S A : Type 0} (Fine Rest : List E → Type 0) (V V' : A → Type 0) (w w' : A → ℕ) (write write' : A → Writer E) (read : Reader E S A) where
  pub other_words : CodecBefore Fine Rest V w write read → ((a : A) → V' a → V a × (w' a ≡ w a) × ((p : ℕ) → write' a p ≡ write a p)) → ((a : A) → V a → V' a) → CodecBefore Fine Rest V' w' write' read
  other_words one to from = record { again = again; takes = takes }
    where
      again : (X rest : List E) (s : Spot) (a : A) → Rest rest → V' a → s.nodes + w' a ≤ most_nodes → Stands X s.at (write' a s.at) rest → read X s ≡ Ok (a, moved s (length (write' a s.at)) (w' a))
      again X rest s a follows v few h =
          let t = to a v in
          rw (t.1, t.2 s.at) (one.again X rest s a follows t.0 (omega (arith, few, t.1)) (subst (λ m. Stands X s.at m rest) (t.2 s.at) h))

      takes : (X : List E) (s : Spot) (x : A × Spot) → Fine X → s.at ≤ length X → read X s ≡ Ok x → Came X s x.1 (write' x.0 s.at) (w' x.0) × V' x.0 × Rest (drop x.1.at X)
      takes X s x fine inside e =
          let k = one.takes X s x fine inside e in
          let v = from x.0 k.1 in
          let t = to x.0 v in
          (subst (λ m. Came X s x.1 m (w' x.0)) (sym (t.2 s.at)) (subst (λ n. Came X s x.1 (write x.0 s.at) n) (sym t.1) k.0), v, k.2)

-- BEHIND WHAT TELLS NOTHING
module _ {E S A B : Type 0} (Fine Rest : List E → Type 0) (c : A) (front : Writer E) (skip : Reader E S A) (V : B → Type 0) (w : B → ℕ) (write : B → Writer E) (read : Reader E S B) where
  pub after_codec : Codec Fine (λ a. a ≡ c) (λ a. 0) (λ a. front) skip → CodecBefore Fine Rest V w write read
      → CodecBefore Fine Rest V w (λ b p. then_write (front p) (write b) p) (λ X s. skip X s >>= λ a. read X a.1)
  after_codec one other =
      other_words Fine Rest V V (λ b. 0 + w b) w (λ b p. then_write (front p) (write b) p) (λ b p. then_write (front p) (write b) p) (λ X s. skip X s >>= λ a. read X a.1)
      (then_codec Fine Rest (λ a. a ≡ c) (λ a. 0) (λ a. front) skip V w write (λ s a. read) (λ b. c) one (λ b v. refl)
      (λ s a is. other_words Fine Rest V (λ b. V b × (c ≡ a)) w w write write read other (λ b v. (v.0, refl, λ p. refl)) (λ b v. (v, sym is))))
      (λ b v. (v, omega arith, λ p. refl))
      (λ b v. v)

-- NOTHING. What is known takes no element;
pub done_codec : {E S A : Type 0} (Fine : List E → Type 0) (a : A) → Codec {S = S} Fine (λ x. x ≡ a) (λ x. 0) (λ x p. []) (λ X s. Ok (a, s))
done_codec {S = S} Fine a = record {
  again = λ X rest s x any same few h. ap (λ m. Ok (m, s)) (sym same) ∙ ap (λ r. Ok (x, r)) (same_spot s.at (s.at + 0) s.nodes (s.nodes + 0) (omega arith) (omega arith));
  takes = λ X s x fine inside e.
      subst (λ (y : _ × Spot). Came X s y.1 [] 0 × (y.0 ≡ a) × Unit {0}) (ok_is {S = S} (a, s) x e)
      (record { taken = record { parts = refl; end = omega arith; inside = inside }; nodes = omega arith; few = λ h. h }, refl, tt);
}

-- and where no value is valid, none is read.
module _ {E S A : Type 0} (Fine Rest : List E → Type 0) (V : A → Type 0) (w : A → ℕ) (write : A → Writer E) (read : Reader E S A) where
  pub never_codec : ((a : A) → V a → ⊥) → ((X : List E) (s : Spot) (x : A × Spot) → read X s ≡ Ok x → ⊥) → CodecBefore Fine Rest V w write read
  never_codec never stops = record {
    again = λ X rest s a follows v few h. absurd (never a v);
    takes = λ X s x fine inside e. absurd (stops X s x e);
  }

-- the same read in other words
module _ {E S A : Type 0} (Fine Rest : List E → Type 0) (V : A → Type 0) (w : A → ℕ) (write : A → Writer E) (read read' : Reader E S A) where
  pub other_reader : CodecBefore Fine Rest V w write read → ((X : List E) (s : Spot) → read' X s ≡ read X s) → CodecBefore Fine Rest V w write read'
  other_reader one same = record {
    again = λ X rest s a follows v few h. same X s ∙ one.again X rest s a follows v few h;
    takes = λ X s x fine inside e. one.takes X s x fine inside (sym (same X s) ∙ e);
  }

-- ALL THAT IS LEFT, UP TO THE END
module _ {E S A : Type 0} (Fine : List E → Type 0) (V : A → Type 0) (w : A → ℕ) (write : A → Writer E) (read : Reader E S A) (stop : Spot → S) where
  pub ended_codec : Codec Fine V w write read → Filling Fine V w write (ended_at stop read)
  unfolding ended_at
  ended_codec one = record { again = again; takes = takes }
    where
      again : (X rest : List E) (s : Spot) (a : A) → rest ≡ [] → V a → s.nodes + w a ≤ most_nodes → Stands X s.at (write a s.at) rest
          → (read X s >>= λ a. stop_if (ltb a.1.at (length X)) (stop a.1) (Ok a)) ≡ Ok (a, moved s (length (write a s.at)) (w a))
      again X rest s a none v few h =
          let long : length X - s.at ≡ length (write a s.at) + length rest = sym (length-drop s.at X) ∙ ap length h.is ∙ length-append (write a s.at) rest in
          rw (one.again X rest s a tt v few h) (rw (le-ltb (s.at + length (write a s.at)) (length X) (omega (arith, long, ap length none, h.inside))) refl)

      takes : (X : List E) (s : Spot) (x : A × Spot) → Fine X → s.at ≤ length X → (read X s >>= λ a. stop_if (ltb a.1.at (length X)) (stop a.1) (Ok a)) ≡ Ok x
          → Came X s x.1 (write x.0 s.at) (w x.0) × V x.0 × (drop x.1.at X ≡ [])
      takes X s x fine inside e =
          let a = bind_ok (read X s) (λ a. stop_if (ltb a.1.at (length X)) (stop a.1) (Ok a)) x e in
          let g = stop_ok (ltb a.0.1.at (length X)) (stop a.0.1) (Ok a.0) x a.2 in
          let k = one.takes X s a.0 fine inside a.1 in
          subst (λ (y : A × Spot). Came X s y.1 (write y.0 s.at) (w y.0) × V y.0 × (drop y.1.at X ≡ [])) (ok_is a.0 x g.1) (k.0, k.1, drop_all a.0.1.at X (ltb-false a.0.1.at (length X) g.0))

module _ {E S : Type 0} (Fine : List E → Type 0) where
  pub left_codec : Filling {E = E} {S = S} Fine (λ xs. Unit {0}) (λ xs. 0) (λ xs p. xs) left_at
  unfolding left_at
  left_codec = record { again = again; takes = takes }
    where
      again : (X rest : List E) (s : Spot) (a : List E) → rest ≡ [] → Unit {0} → s.nodes + 0 ≤ most_nodes → Stands X s.at a rest → with_spot {S = S} (drop s.at X) (moved s (length (drop s.at X)) 0) ≡ Ok (a, moved s (length a) 0)
      again X rest s a none v few h = let e : drop s.at X ≡ a = h.is ∙ ap (λ r. a ++ r) none ∙ append-nil a in ap (λ b. with_spot b (moved s (length b) 0)) e

      takes : (X : List E) (s : Spot) (x : List E × Spot) → Fine X → s.at ≤ length X → with_spot {S = S} (drop s.at X) (moved s (length (drop s.at X)) 0) ≡ Ok x → Came X s x.1 x.0 0 × Unit {0} × (drop x.1.at X ≡ [])
      takes X s x fine inside e =
          let r = moved s (length (drop s.at X)) 0 in
          let long = length-drop s.at X in
          let none : drop r.at X ≡ [] = drop_all r.at X (omega (arith, long)) in
          subst (λ (y : List E × Spot). Came X s y.1 y.0 0 × Unit {0} × (drop y.1.at X ≡ [])) (ok_is {S = S} (drop s.at X, r) x e) (
            record {
              taken = record { parts = sym (append-nil (drop s.at X)) ∙ ap (λ m. drop s.at X ++ m) (sym none); end = refl; inside = omega (arith, long, inside) };
              nodes = refl;
              few = λ h. omega (arith, h);
            },
            tt,
            none,
          )

-- A WINDOW of what fills it
module _ {E S A : Type 0} (Fine : List E → Type 0) (V : A → Type 0) (w : A → ℕ) (write : A → Writer E) (read : Reader E S A) (size : A → ℕ) (stop : S) (n : ℕ) where
  pub window_codec : ((m : ℕ) (X : List E) → Fine X → Fine (take m X)) → ((a : A) (p : ℕ) → length (write a p) ≡ size a) → Filling Fine V w write read → Codec Fine (λ a. V a × (size a ≡ n)) w write (window_at stop n read)
  unfolding window_at
  window_codec cut_fine sized one = record { again = again; takes = takes }
    where
      again : (X rest : List E) (s : Spot) (a : A) → Unit {0} → V a × (size a ≡ n) → s.nodes + w a ≤ most_nodes → Stands X s.at (write a s.at) rest
          → stop_if (ltb (length X) (s.at + n)) stop (read (take (s.at + n) X) s) ≡ Ok (a, moved s (length (write a s.at)) (w a))
      again X rest s a any v few h =
          let exact : length (write a s.at) ≡ n = sized a s.at ∙ v.1 in
          let long : length X - s.at ≡ n + length rest = sym (length-drop s.at X) ∙ ap length h.is ∙ length-append (write a s.at) rest ∙ ap (λ m. m + length rest) exact in
          let inner : drop s.at (take (s.at + n) X) ≡ write a s.at = drop-take s.at n X ∙ ap (take n) h.is ∙ take_at (write a s.at) rest n exact in
          let reach : length (take (s.at + n) X) ≡ s.at + n = length-take-le (s.at + n) X (omega (arith, long, h.inside)) in
          stop_not (ltb (length X) (s.at + n)) stop (read (take (s.at + n) X) s) (le-ltb (length X) (s.at + n) (omega (arith, long, h.inside)))
          ∙ one.again (take (s.at + n) X) [] s a refl v.0 few (record { inside = omega (arith, reach); is = inner ∙ sym (append-nil (write a s.at)) })

      takes : (X : List E) (s : Spot) (x : A × Spot) → Fine X → s.at ≤ length X → stop_if (ltb (length X) (s.at + n)) stop (read (take (s.at + n) X) s) ≡ Ok x
          → Came X s x.1 (write x.0 s.at) (w x.0) × (V x.0 × (size x.0 ≡ n)) × Unit {0}
      takes X s x fine inside e =
          let g = stop_ok (ltb (length X) (s.at + n)) stop (read (take (s.at + n) X) s) x e in
          let le : s.at + n ≤ length X = ltb-false (length X) (s.at + n) g.0 in
          let Y = take (s.at + n) X in
          let reach : length Y ≡ s.at + n = length-take-le (s.at + n) X le in
          let k = one.takes Y s x (cut_fine (s.at + n) X fine) (omega (arith, reach)) g.1 in
          let found = write x.0 s.at in
          let inner : take n (drop s.at X) ≡ found = sym (drop-take s.at n X) ∙ k.0.taken.parts ∙ ap (λ r. found ++ r) k.2 ∙ append-nil found in
          let exact : length found ≡ n = ap length (sym inner) ∙ length-take-le n (drop s.at X) (omega (arith, length-drop s.at X, le)) in
          let end : x.1.at ≡ s.at + n = k.0.taken.end ∙ ap (λ m. s.at + m) exact in
          let cut : drop s.at X ≡ found ++ drop x.1.at X = sym (take-append-drop n (drop s.at X)) ∙ ap (λ m. m ++ drop n (drop s.at X)) inner ∙ ap (λ m. found ++ m) (drop-drop n s.at X ∙ ap (λ m. drop m X) (sym end)) in
          (record { taken = record { parts = cut; end = k.0.taken.end; inside = omega (arith, end, le) }; nodes = k.0.nodes; few = k.0.few }, (k.1, sym (sized x.0 s.at) ∙ exact), tt)

-- ONE NODE MORE. The test is of the nodes before it, and of nothing that is read.
module _ {E S A : Type 0} (Fine Rest : List E → Type 0) (V : A → Type 0) (w : A → ℕ) (write : A → Writer E) (read : Reader E S A) (is_over : Spot → Bool) (stop : Spot → S) where
  pub entered_codec : CodecBefore Fine Rest V w write read → ((s : Spot) → s.nodes < most_nodes → is_over s ≡ false) → ((s : Spot) → is_over s ≡ false → s.nodes < most_nodes)
      → CodecBefore Fine Rest V (λ a. suc (w a)) write (entered_at is_over stop read)
  unfolding entered_at
  entered_codec one pass back = record { again = again; takes = takes }
    where
      again : (X rest : List E) (s : Spot) (a : A) → Rest rest → V a → s.nodes + suc (w a) ≤ most_nodes → Stands X s.at (write a s.at) rest
          → stop_if (is_over s) (stop s) (read X (moved s 0 1)) ≡ Ok (a, moved s (length (write a s.at)) (suc (w a)))
      again X rest s a follows v few h =
          let same : moved s 0 1 ≡ spot s.at (s.nodes + 1) = same_spot (s.at + 0) s.at (s.nodes + 1) (s.nodes + 1) (omega arith) refl in
          stop_not (is_over s) (stop s) (read X (moved s 0 1)) (pass s (omega (arith, few))) ∙ ap (read X) same
          ∙ one.again X rest (spot s.at (s.nodes + 1)) a follows v (omega (arith, few)) h
          ∙ ap (λ r. Ok (a, r)) (same_spot (s.at + length (write a s.at)) (s.at + length (write a s.at)) (s.nodes + 1 + w a) (s.nodes + suc (w a)) refl (omega arith))

      takes : (X : List E) (s : Spot) (x : A × Spot) → Fine X → s.at ≤ length X → stop_if (is_over s) (stop s) (read X (moved s 0 1)) ≡ Ok x
          → Came X s x.1 (write x.0 s.at) (suc (w x.0)) × V x.0 × Rest (drop x.1.at X)
      takes X s x fine inside e =
          let g = stop_ok (is_over s) (stop s) (read X (moved s 0 1)) x e in
          let same : moved s 0 1 ≡ spot s.at (s.nodes + 1) = same_spot (s.at + 0) s.at (s.nodes + 1) (s.nodes + 1) (omega arith) refl in
          let k = one.takes X (spot s.at (s.nodes + 1)) x fine inside (sym (ap (read X) same) ∙ g.1) in
          (record { taken = k.0.taken; nodes = omega (arith, k.0.nodes); few = λ h. k.0.few (omega (arith, back s g.0)) }, k.1, k.2)

-- EXACTLY ONE
module _ {E S A : Type 0} (Fine : List E → Type 0) (V : A → Type 0) (w : A → ℕ) (write : A → Writer E) (read : Reader E S A) where
  pub exactly_one : Codec Fine V w write read → ExactlyOne Fine V w write read
  exactly_one codec = record {
    either = λ X s fine inside few. either X s fine inside few (read X s) refl;
    not_both = λ X s a stop h e. not_both X s a stop h e;
    one_value = λ X s a b h k. ap (λ (y : A × Spot). y.0) (ok_is {S = S} (a, moved s (length (write a s.at)) (w a)) (b, moved s (length (write b s.at)) (w b)) (sym (found X s a h) ∙ found X s b k));
    one_stop = λ X s r q h k. cc;
  }
    where
      found : (X : List E) (s : Spot) (a : A) → IsThere V w write X s a → read X s ≡ Ok (a, moved s (length (write a s.at)) (w a))
      found X s a h = codec.again X h.rest s a tt h.valid h.few h.stands

      either : (X : List E) (s : Spot) → Fine X → s.at ≤ length X → s.nodes ≤ most_nodes → (r : Result (A × Spot) S) → read X s ≡ r → ((a : A) × IsThere V w write X s a) ⊎ ((stop : S) × (read X s ≡ Err stop))
      either X s fine inside few (Ok x) e =
          let k = codec.takes X s x fine inside e in
          inl (x.0, record { valid = k.1; few = omega (arith, k.0.nodes, k.0.few few); rest = drop x.1.at X; stands = record { inside = inside; is = k.0.taken.parts } })
      either X s fine inside few (Err stop) e = inr (stop, e)

      not_both : (X : List E) (s : Spot) (a : A) (stop : S) → IsThere V w write X s a → read X s ≡ Err stop → ⊥
      not_both X s a stop h e = let f = found X s a h in cc (f, e)
