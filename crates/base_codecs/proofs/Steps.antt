-- A step of reading that stops: in what is read first, or behind it.
use Rattle.std.proofs.Common.{◌≡◌, ℕ, ◌+◌, ◌≤◌, Bool, true, false, cond, not, List, length, refl, sym, ap, ◌∙◌, arith, drop, Result, Ok, Err, inl, inr, ◌⊎◌}
use Rattle.base_codecs.specs.declared.spots.Spot.{Spot}
use Rattle.base_codecs.specs.Reading.{◌>>=◌, Reader, Writer, stop_if, with_spot}
use Rattle.base_codecs.specs.Codec.{most_nodes, Came, CodecBefore}
use Rattle.base_codecs.proofs.Codecs.{same_spot}

abbrev pub Iff : Type 0 → Type 0 → Type 0
Iff A B = (A → B) × (B → A)

-- A fact gives one, and follows from another. The two are alike but for the levels of nodes that they speak of.
abbrev pub Told : Type 0 → Type 0 → Type 0 → Type 0
Told A P Q = (A → P) × (Q → A)

-- a test that means a fact
pub lacking : (b : Bool) (P : Type 0) → Iff (b ≡ true) P → Iff (b ≡ false) (P → ⊥)
lacking true P means = (λ e. absurd cc, λ n. absurd (n (means.0 refl)))
lacking false P means = (λ e p. absurd (let f = means.1 p in cc), λ n. refl)

pub no_fact : (b : Bool) → Iff (not b ≡ true) (b ≡ false)
no_fact true = (λ e. absurd cc, λ e. absurd cc)
no_fact false = (λ e. refl, λ e. refl)

-- reading is within the list and within the nodes
abbrev pub Inside : {E : Type 0} → List E → Spot → Type 0
Inside X s = (s.at ≤ length X) × (s.nodes ≤ most_nodes)

pub err_is : {S A : Type 0} (x : Result A S) (d stop : S) → x ≡ Err d → x ≡ Err stop → d ≡ stop
err_is x d stop e f = cc

pub bind_err : {S A B : Type 0} (r : Result A S) (f : A → Result B S) (stop : S) → (r >>= f) ≡ Err stop → (r ≡ Err stop) ⊎ ((x : A) × (r ≡ Ok x) × (f x ≡ Err stop))
bind_err (Ok x) f stop e = inr (x, refl, e)
bind_err (Err d) f stop e = inl (ap Err (err_is (Err d >>= f) d stop refl e))

pub err_bind : {S A B : Type 0} (r : Result A S) (f : A → Result B S) (stop : S) → r ≡ Err stop → (r >>= f) ≡ Err stop
err_bind r f stop e = ap (λ q. q >>= f) e

pub ok_bind : {S A B : Type 0} (r : Result A S) (f : A → Result B S) (x : A) (stop : S) → r ≡ Ok x → f x ≡ Err stop → (r >>= f) ≡ Err stop
ok_bind r f x stop e k = ap (λ q. q >>= f) e ∙ k

pub stop_err : {S A : Type 0} (b : Bool) (d : S) (x : Result A S) (stop : S) → stop_if b d x ≡ Err stop → ((b ≡ true) × (stop ≡ d)) ⊎ ((b ≡ false) × (x ≡ Err stop))
stop_err true d x stop e = inl (refl, sym (err_is (stop_if true d x) d stop refl e))
stop_err false d x stop e = inr (refl, e)

pub err_stop : {S A : Type 0} (b : Bool) (d stop : S) (x : Result A S) → b ≡ true → stop ≡ d → stop_if b d x ≡ Err stop
err_stop b d stop x e k = ap (λ c. stop_if c d x) e ∙ ap Err (sym k)

pub err_later : {S A : Type 0} (b : Bool) (d stop : S) (x : Result A S) → b ≡ false → x ≡ Err stop → stop_if b d x ≡ Err stop
err_later b d stop x e k = ap (λ c. stop_if c d x) e ∙ k

pub cond_err : {S A : Type 0} (b : Bool) (x y : Result A S) (stop : S) → cond b x y ≡ Err stop → ((b ≡ true) × (x ≡ Err stop)) ⊎ ((b ≡ false) × (y ≡ Err stop))
cond_err true x y stop e = inl (refl, e)
cond_err false x y stop e = inr (refl, e)

abbrev spotted : {S A : Type 0} → A → Spot → Result (A × Spot) S
spotted a r = with_spot a r

pub none_stops : {S A : Type 0} (a : A) (r : Spot) (stop : S) {G : Type 0} → spotted {S = S} a r ≡ Err stop → G
none_stops a r stop e = absurd cc

-- what is only told in another form stops where it stops
pub map_told : {S A B : Type 0} (r : Result (A × Spot) S) (f : A → B) (stop : S) → Iff ((r >>= λ a. with_spot (f a.0) a.1) ≡ Err stop) (r ≡ Err stop)
map_told {S = S} {A = A} {B = B} r f stop = (forth, λ e. err_bind r (λ a. with_spot (f a.0) a.1) stop e)
  where
    forth : (r >>= λ a. with_spot (f a.0) a.1) ≡ Err stop → r ≡ Err stop
    forth e = elim (bind_err r (λ a. with_spot (f a.0) a.1) stop e) [ inl h ↦ h | inr k ↦ none_stops {S = S} (f k.0.0) k.0.1 stop k.2 ]

-- WHAT IS READ, by what is written of it
module _ {E : Type 0} (Fine Rest : List E → Type 0) (X : List E) (fine : Fine X) where
  pub after : (s r : Spot) (found : List E) (n : ℕ) → Inside X s → Came X s r found n → Inside X r
  after s r found n inside c = (c.taken.inside, c.few inside.1)

  module _ {S A : Type 0} (V : A → Type 0) (w : A → ℕ) (write : A → Writer E) (read : Reader E S A) (codec : CodecBefore Fine Rest V w write read) where
    pub came : (s : Spot) (a : A) (r : Spot) → Inside X s → read X s ≡ Ok (a, r) → V a × Came X s r (write a s.at) (w a) × Rest (drop r.at X)
    came s a r inside e = let k = codec.takes X s (a, r) fine inside.0 e in (k.1, k.0, k.2)

    pub goes : (s : Spot) (a : A) (r : Spot) → Inside X s → Rest (drop r.at X) → V a → Came X s r (write a s.at) (w a) → read X s ≡ Ok (a, r)
    goes s a r inside follows v c =
        codec.again X (drop r.at X) s a follows v (omega (arith, c.nodes, c.few inside.1)) (record { inside = inside.0; is = c.taken.parts })
        ∙ ap (λ q. Ok (a, q)) (same_spot (s.at + length (write a s.at)) r.at (s.nodes + w a) r.nodes (sym c.taken.end) (sym c.nodes))

    -- what is read first stops, or what is read behind it
    pub then_told : {B : Type 0} (f : A × Spot → Result B S) (First First' : Type 0) (Next Next' : A → Spot → Type 0) (s : Spot) (stop : S) → Inside X s → Told (read X s ≡ Err stop) First First'
        → ((a : A) (r : Spot) → V a → Inside X r → Told (f (a, r) ≡ Err stop) (Next a r) (Next' a r))
        → Told ((read X s >>= f) ≡ Err stop) (First ⊎ ((a : A) × (r : Spot) × V a × Came X s r (write a s.at) (w a) × Rest (drop r.at X) × Next a r))
        (First' ⊎ ((a : A) × (r : Spot) × V a × Came X s r (write a s.at) (w a) × Rest (drop r.at X) × Next' a r))
    then_told f First First' Next Next' s stop inside first rest = (forth, back)
      where
        forth : (read X s >>= f) ≡ Err stop → First ⊎ ((a : A) × (r : Spot) × V a × Came X s r (write a s.at) (w a) × Rest (drop r.at X) × Next a r)
        forth e = elim (bind_err (read X s) f stop e) [
          | inl h ↦ inl (first.0 h)
          | inr k ↦ (
              let c = came s k.0.0 k.0.1 inside k.1 in
              inr (k.0.0, k.0.1, c.0, c.1, c.2, (rest k.0.0 k.0.1 c.0 (after s k.0.1 (write k.0.0 s.at) (w k.0.0) inside c.1)).0 k.2))
        ]

        back : First' ⊎ ((a : A) × (r : Spot) × V a × Came X s r (write a s.at) (w a) × Rest (drop r.at X) × Next' a r) → (read X s >>= f) ≡ Err stop
        back (inl h) = err_bind (read X s) f stop (first.1 h)
        back (inr k) =
            ok_bind (read X s) f (k.0, k.1) stop (goes s k.0 k.1 inside k.4 k.2 k.3)
            ((rest k.0 k.1 k.2 (after s k.1 (write k.0 s.at) (w k.0) inside k.3)).1 k.5)
