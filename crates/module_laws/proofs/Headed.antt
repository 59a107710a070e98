-- Lists of faults of which the first is the least, by where they stand.
use Rattle.std.proofs.Common.{◌≡◌, ℕ, zero, suc, ◌+◌, ◌*◌, ◌<◌, ◌≤◌, ◌↔◌, Bool, true, false, inl, inr, Some, List, [], ◌∷◌, ◌++◌, All, refl, sym, ap, ap₂, ◌∙◌, subst, arith, append_assoc}
use Rattle.std.proofs.lemmas.Bool.{cases_lt}
use Rattle.std.proofs.lemmas.List.Elements.{All-cons}
use Rattle.module_text.specs.declared.reasons.ModuleWhy.{ModuleWhy}
use Rattle.module_text.specs.declared.reasons.ModuleWhy.TheVariants as why
use Rattle.module_text.specs.declared.reasons.TextFault.{TextFault}
use Rattle.module_text.specs.Listed.{fault, unless, order, first, SomeFault, Comes, IsLeast}

-- Places first, and at one place the reasons in their order.
abbrev pub key : TextFault → ℕ
key f = 7 * f.at + order f.why

-- none comes before this
abbrev pub Low : ℕ → List TextFault → Type 0
Low n [] = Unit {0}
Low n (f ∷ fs) = (n ≤ key f) × Low n fs

-- the first is the least
abbrev pub Heads : List TextFault → Type 0
Heads [] = Unit {0}
Heads (f ∷ fs) = Low (key f) fs

-- the first, where there is one, does not come behind this
abbrev pub StartsBy : ℕ → List TextFault → Type 0
StartsBy n [] = Unit {0}
StartsBy n (f ∷ fs) = key f ≤ n

-- from one key on, of which the first begins by another
pub record Run (from to : ℕ) (fs : List TextFault) : Type 0 where
  pub low : Low from fs
  pub heads : Heads fs
  pub starts : StartsBy to fs

pub low-less : (m n : ℕ) (fs : List TextFault) → m ≤ n → Low n fs → Low m fs
low-less m n [] le l = tt
low-less m n (f ∷ fs) le l = (omega (arith, l.0), low-less m n fs le l.1)

pub low-append : (n : ℕ) (xs ys : List TextFault) → Low n xs → Low n ys → Low n (xs ++ ys)
low-append n [] ys l k = k
low-append n (x ∷ xs) ys l k = (l.0, low-append n xs ys l.1 k)

starts-more : (m n : ℕ) (fs : List TextFault) → m ≤ n → StartsBy m fs → StartsBy n fs
starts-more m n [] le s = tt
starts-more m n (f ∷ fs) le s = omega (arith, s)

pub widen : (a b c d : ℕ) (fs : List TextFault) → Run a b fs → c ≤ a → b ≤ d → Run c d fs
widen a b c d fs r le more = record { low = low-less c a fs le r.low; heads = r.heads; starts = starts-more b d fs more r.starts }

pub nothing : (a b : ℕ) → Run a b []
nothing a b = record { low = tt; heads = tt; starts = tt }

-- one behind the other
pub joined : (a b c d : ℕ) (xs ys : List TextFault) → Run a b xs → Run c d ys → a ≤ c → b ≤ c → b ≤ d → Run a d (xs ++ ys)
joined a b c d [] ys r s ac bc bd = widen c d a d ys s ac (omega arith)
joined a b c d (x ∷ xs) ys r s ac bc bd = record {
  low = (r.low.0, low-append a xs ys r.low.1 (low-less a c ys ac s.low));
  heads = low-append (key x) xs ys r.heads (low-less (key x) c ys (omega (arith, r.starts, bc)) s.low);
  starts = omega (arith, r.starts, bd);
}

-- behind one that there is, in any order
pub followed : (a b c d : ℕ) (x : TextFault) (xs ys : List TextFault) → Run a b (x ∷ xs) → Low c ys → a ≤ c → b ≤ c → b ≤ d → Run a d ((x ∷ xs) ++ ys)
followed a b c d x xs ys r l ac bc bd = record {
  low = (r.low.0, low-append a xs ys r.low.1 (low-less a c ys ac l));
  heads = low-append (key x) xs ys r.heads (low-less (key x) c ys (omega (arith, r.starts, bc)) l);
  starts = omega (arith, r.starts, bd);
}

pub one : (b : Bool) (at : ℕ) (reason : ModuleWhy) (low high : ℕ) → low ≤ 7 * at + order reason → 7 * at + order reason ≤ high
    → Run low high (unless b at reason)
one true at reason low high le more = nothing low high
one false at reason low high le more = record { low = (le, tt); heads = tt; starts = more }

-- three lists, of which the last two are one behind the other
pub joined₃ : (a b c d : ℕ) (xs ys zs : List TextFault) → Run a b xs → Run c d (ys ++ zs) → a ≤ c → b ≤ c → b ≤ d → Run a d ((xs ++ ys) ++ zs)
joined₃ a b c d xs ys zs r s ac bc bd =
    let P : List TextFault → Type 0 = λ fs. Run a d fs in
    subst P (sym (append_assoc xs ys zs)) (joined a b c d xs (ys ++ zs) r s ac bc bd)

-- ---- a part that begins here

-- What is said of a part that is nothing but a reference, and the faults of its type, where these begin no sooner than so.
pub data Front (p c : ℕ) (u ys : List TextFault) : Type 0 where
  usual : u ≡ [] → 7 * p + 6 ≤ c → Front p c u ys
  unresolved : u ≡ fault p why.Unresolved ∷ [] → 7 * p + 4 ≤ c → Front p c u ys
  silent : u ≡ [] → ys ≡ [] → Front p c u ys

usual_front : (p mp tp c d : ℕ) (b₁ b₂ : Bool) (ms ys : List TextFault) → p ≤ mp → mp ≤ tp → 7 * p + 6 ≤ c → 7 * tp ≤ c → c ≤ d
    → Run (7 * mp + 6) (7 * tp) ms → Run c d ys
    → Run (7 * p + 3) d ((((unless b₁ p why.Duplicate ++ []) ++ unless b₂ p why.Spelling) ++ ms) ++ ys)
usual_front p mp tp c d b₁ b₂ ms ys pm mt pc tc cd r s =
    joined (7 * p + 3) c c d _ ys
    (joined (7 * p + 3) (7 * p + 6) (7 * mp + 6) c _ ms
    (joined (7 * p + 3) (7 * p + 3) (7 * p + 6) (7 * p + 6) _ _
    (joined (7 * p + 3) (7 * p + 3) (7 * p + 3) (7 * p + 3) _ []
    (one b₁ p why.Duplicate _ _ (omega arith) (omega arith))
    (nothing _ _) (omega arith) (omega arith) (omega arith))
    (one b₂ p why.Spelling _ _ (omega arith) (omega arith))
    (omega arith) (omega arith) (omega arith))
    (widen (7 * mp + 6) (7 * tp) (7 * mp + 6) c ms r (omega arith) tc)
    (omega (arith, pm)) (omega (arith, pm)) pc)
    s
    (omega (arith, pc)) (omega arith) cd

unresolved_front : (p mp tp c d : ℕ) (b₁ b₂ : Bool) (ms ys : List TextFault) → p ≤ mp → 7 * p + 4 ≤ c → c ≤ d
    → Run (7 * mp + 6) (7 * tp) ms → Run c d ys
    → Run (7 * p + 3) d ((((unless b₁ p why.Duplicate ++ (fault p why.Unresolved ∷ [])) ++ unless b₂ p why.Spelling) ++ ms) ++ ys)
unresolved_front p mp tp c d b₁ b₂ ms ys pm pc cd r s =
    let two = one b₂ p why.Spelling (7 * p + 4) (7 * p + 6) (omega arith) (omega arith) in
    let lows = low-append (7 * p + 4) (unless b₂ p why.Spelling ++ ms) ys
    (low-append (7 * p + 4) (unless b₂ p why.Spelling) ms two.low (low-less (7 * p + 4) (7 * mp + 6) ms (omega (arith, pm)) r.low))
    (low-less (7 * p + 4) c ys pc s.low) in
    by b₁ lows
  where
    by : (b : Bool) → Low (7 * p + 4) ((unless b₂ p why.Spelling ++ ms) ++ ys)
        → Run (7 * p + 3) d ((((unless b p why.Duplicate ++ (fault p why.Unresolved ∷ [])) ++ unless b₂ p why.Spelling) ++ ms) ++ ys)
    by true l = record { low = (omega arith, low-less (7 * p + 3) (7 * p + 4) ((unless b₂ p why.Spelling ++ ms) ++ ys) (omega arith) l); heads = l; starts = omega (arith, pc, cd) }
    by false l = record {
      low = (omega arith, (omega arith, low-less (7 * p + 3) (7 * p + 4) ((unless b₂ p why.Spelling ++ ms) ++ ys) (omega arith) l));
      heads = (omega arith, low-less (7 * p + 3) (7 * p + 4) ((unless b₂ p why.Spelling ++ ms) ++ ys) (omega arith) l);
      starts = omega (arith, pc, cd);
    }

pub fronted : (p mp tp c d : ℕ) (b₁ b₂ : Bool) (u ms ys : List TextFault) → Front p c u ys → p ≤ mp → mp ≤ tp → 7 * tp ≤ c → 7 * p + 6 ≤ d → c ≤ d
    → Run (7 * mp + 6) (7 * tp) ms → Run c d ys
    → Run (7 * p + 3) d ((((unless b₁ p why.Duplicate ++ u) ++ unless b₂ p why.Spelling) ++ ms) ++ ys)
fronted p mp tp c d b₁ b₂ u ms ys (usual e pc) pm mt tc pd cd r s = rw e (usual_front p mp tp c d b₁ b₂ ms ys pm mt pc tc cd r s)
fronted p mp tp c d b₁ b₂ u ms ys (unresolved e pc) pm mt tc pd cd r s = rw e (unresolved_front p mp tp c d b₁ b₂ ms ys pm pc cd r s)
fronted p mp tp c d b₁ b₂ u ms ys (silent e f) pm mt tc pd cd r s =
    let P : List TextFault → Type 0 = λ us. Run (7 * p + 3) d ((((unless b₁ p why.Duplicate ++ us) ++ unless b₂ p why.Spelling) ++ ms) ++ ys) in
    let Q : List TextFault → Type 0 = λ fs. Run (7 * p + 3) d ((((unless b₁ p why.Duplicate ++ []) ++ unless b₂ p why.Spelling) ++ ms) ++ fs) in
    subst P (sym e) (subst Q (sym f) (silent_front p mp tp d b₁ b₂ ms pm mt pd tc cd r))
  where
    silent_front : (p mp tp d : ℕ) (b₁ b₂ : Bool) (ms : List TextFault) → p ≤ mp → mp ≤ tp → 7 * p + 6 ≤ d → 7 * tp ≤ c → c ≤ d → Run (7 * mp + 6) (7 * tp) ms
        → Run (7 * p + 3) d ((((unless b₁ p why.Duplicate ++ []) ++ unless b₂ p why.Spelling) ++ ms) ++ [])
    silent_front p mp tp d b₁ b₂ ms pm mt pd tc cd r =
        joined (7 * p + 3) d d d _ []
        (joined (7 * p + 3) (7 * p + 6) (7 * mp + 6) d _ ms
        (joined (7 * p + 3) (7 * p + 3) (7 * p + 6) (7 * p + 6) _ _
        (joined (7 * p + 3) (7 * p + 3) (7 * p + 3) (7 * p + 3) _ []
        (one b₁ p why.Duplicate _ _ (omega arith) (omega arith))
        (nothing _ _) (omega arith) (omega arith) (omega arith))
        (one b₂ p why.Spelling _ _ (omega arith) (omega arith))
        (omega arith) (omega arith) (omega arith))
        (widen (7 * mp + 6) (7 * tp) (7 * mp + 6) d ms r (omega arith) (omega (arith, tc, cd)))
        (omega (arith, pm)) (omega (arith, pm)) pd)
        (nothing _ _)
        (omega (arith, pd)) (omega arith) (omega arith)

-- what stands behind the type of a part, and the parts behind it
pub tailed : (p te fe end next last : ℕ) (xs fs ds rest : List TextFault) → Run (7 * p + 3) (7 * suc te) xs → Run (7 * suc te) (7 * fe) fs → Run (7 * suc fe) (7 * suc end) ds
    → Run (7 * next) (7 * suc last) rest → p ≤ te → te ≤ fe → fe ≤ end → end < next → end ≤ last
    → Run (7 * p) (7 * suc last) (((xs ++ fs) ++ ds) ++ rest)
tailed p te fe end next last xs fs ds rest x f a r pt tf fa en el =
    joined (7 * p) (7 * suc end) (7 * next) (7 * suc last) _ rest
    (joined (7 * p) (7 * suc fe) (7 * suc fe) (7 * suc end) _ ds
    (joined (7 * p) (7 * suc te) (7 * suc te) (7 * suc fe) xs fs
    (widen (7 * p + 3) (7 * suc te) (7 * p) (7 * suc te) xs x (omega arith) (omega arith))
    (widen (7 * suc te) (7 * fe) (7 * suc te) (7 * suc fe) fs f (omega arith) (omega arith))
    (omega (arith, pt)) (omega arith) (omega (arith, tf)))
    a
    (omega (arith, pt, tf)) (omega arith) (omega (arith, fa)))
    r
    (omega (arith, pt, tf, fa, en)) (omega (arith, en)) (omega (arith, el))

-- ---- the first of such a list

order-most : (w : ModuleWhy) → order w ≤ 6
order-most why.NotUtf8 = omega arith
order-most why.Syntax = omega arith
order-most why.TooDeep = omega arith
order-most why.Duplicate = omega arith
order-most why.Unresolved = omega arith
order-most why.LongChain = omega arith
order-most why.Spelling = omega arith

abbrev with_order : ℕ → ModuleWhy
with_order n = elim n [
  | zero ↦ why.NotUtf8
  | suc m ↦ elim m [
    | zero ↦ why.Syntax
    | suc m ↦ elim m [
      | zero ↦ why.TooDeep
      | suc m ↦ elim m [ zero ↦ why.Duplicate | suc m ↦ elim m [ zero ↦ why.Unresolved | suc m ↦ elim m [ zero ↦ why.LongChain | suc m ↦ why.Spelling ] ] ]
    ]
  ]
]

order-back : (w : ModuleWhy) → with_order (order w) ≡ w
order-back why.NotUtf8 = refl
order-back why.Syntax = refl
order-back why.TooDeep = refl
order-back why.Duplicate = refl
order-back why.Unresolved = refl
order-back why.LongChain = refl
order-back why.Spelling = refl

comes : (f g : TextFault) → key f ≤ key g → Comes f g
comes f g le = elim (cases_lt f.at g.at) [
  | inl lt ↦ inl lt
  | inr ge ↦ inr (omega (arith, le, ge, order-most f.why, order-most g.why), omega (arith, le, ge, order-most f.why, order-most g.why))
]

ahead : (f g : TextFault) → Comes f g → key f ≤ key g
ahead f g (inl lt) = omega (arith, lt, order-most f.why, order-most g.why)
ahead f g (inr h) = omega (arith, h.0, h.1)

low-all : (f : TextFault) (fs : List TextFault) → Low (key f) fs → All (Comes f) fs
low-all f [] l = λ k d lt. absurd (omega (arith, lt))
low-all f (g ∷ gs) l = All-cons (Comes f) g gs (comes f g l.0) (low-all f gs l.1)

low-one : (n : ℕ) (f : TextFault) (fs : List TextFault) → Low n fs → SomeFault (λ g. g ≡ f) fs → n ≤ key f
low-one n f [] l s = absurd s
low-one n f (g ∷ gs) l (inl e) = let P : TextFault → Type 0 = λ h. n ≤ key h in subst P e l.0
low-one n f (g ∷ gs) l (inr s) = low-one n f gs l.1 s

same_fault : (f g : TextFault) → key f ≡ key g → f ≡ g
same_fault f g e =
    let places : f.at ≡ g.at = omega (arith, e, order-most f.why, order-most g.why) in
    let orders : order f.why ≡ order g.why = omega (arith, e, order-most f.why, order-most g.why) in
    let reasons : f.why ≡ g.why = sym (order-back f.why) ∙ ap with_order orders ∙ order-back g.why in
    ap₂ fault places reasons

pub first_least : (fs : List TextFault) → Heads fs → (f : TextFault) → (first fs ≡ Some f) ↔ IsLeast fs f
unfolding first
first_least [] h f = (λ e. absurd (cc), λ l. absurd l.one)
first_least (g ∷ gs) h f = (
  λ e. let P : TextFault → Type 0 = λ x. IsLeast (g ∷ gs) x in
      let same : g ≡ f = cc in
      subst P same (record { one = inl refl; least = low-all g (g ∷ gs) (omega arith, h) }),
  λ l. let there : Comes f g = l.least 0 g (omega arith) in
      let to : key f ≤ key g = ahead f g there in
      let back : key g ≤ key f = low-one (key g) f (g ∷ gs) (omega arith, h) l.one in
      ap Some (same_fault g f (omega (arith, to, back))),
)
