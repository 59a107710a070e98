use Rattle.std.proofs.Common.{◌≡◌, ℕ, ◌<◌, ◌≤◌, ◌⊎◌, inl, inr, List, ◌∷◌, [], ◌++◌, map, length, get_or, arith, refl, sym, ap, ◌∙◌}
use Rattle.std.proofs.lemmas.List.{map-append, length-map, length-append}
use Rattle.simple_types.specs.declared.simples.Simple.{Simple}
use Rattle.simple_types.specs.Seen.{space_of}
use Rattle.link_names.specs.declared.definitions.SimpleType.{SimpleType}
use Rattle.link_names.specs.CyclesSeen.{definitions_of}
use Rattle.link_set.proofs.Making.{none_made, one_made, no_more}
use Rattle.link_set.specs.Private.Made.{made_one, made_of}
use Rattle.link_set.specs.Sets as told
use Rattle.link_set.specs.Sets.{made_types}
use Rattle.link_set.specs.declared.simples.MadeType.{MadeType}
use Rattle.link_set.proofs.simples.made_types.Invariants.{AreMade}
use Rattle.link_set.proofs.simples.made_types.Goals as goal

-- while there is a definition, each space so far has one
all_defined : (m n k : ℕ) → n < m → (n ≡ m) ⊎ (n ≡ k) → n ≡ k
all_defined m n k lt (inl e) = absurd (omega (arith, lt, e))
all_defined m n k lt (inr e) = e

-- and where there is none, there are as many spaces at least
all_used : (m n k : ℕ) → m ≤ n → n ≤ k → m ≤ k
all_used m n k le below = omega (arith, le, below)

-- a space without a definition
left_out : (definitions : List SimpleType) (spaces : List Simple) (space : Simple) (made : List told.MadeType) (n : ℕ)
    → AreMade definitions spaces made n → length definitions ≤ n → AreMade definitions (spaces ++ space ∷ []) made n
left_out definitions spaces space made n so_far none =
    let as_long = length-map spaces space_of in
    let fewer : length definitions ≤ length (map space_of spaces) = omega (arith, so_far.1, none, as_long) in
    let longer = length-append spaces (space ∷ []) in (
      so_far.0 ∙ sym (no_more definitions (map space_of spaces) (space_of space) fewer)
          ∙ ap (made_types (definitions_of definitions)) (sym (map-append space_of spaces (space ∷ []))),
      omega (arith, so_far.1, longer),
      so_far.2,
      inl (omega (arith, so_far.2, none)),
    )

pub spaces-init : goal.spaces-init
spaces-init c =
    (ap made_of c.new-made.ensures.items ∙ sym (none_made (definitions_of c.args.definitions.now)), omega arith, omega arith, inr refl)

pub spaces-preserved-then-n-definitions : goal.spaces-preserved-then-n-definitions
spaces-preserved-then-n-definitions c =
    let definitions = c.args.definitions.now in
    let definition = c.index-definitions-n.result in
    let space = c.in-Some.space in
    let passed = c.spaces.yielded in
    let made = c.spaces.made.items in
    let one : MadeType = record { definition = definition; space = space } in
    let below = c.if-n-definitions.true in
    let so_far = all_defined (length definitions) c.spaces.n (length passed) below c.spaces.invariant.3 in
    let as_long = length-map passed space_of in
    let longer = length-append passed (space ∷ []) in
    let within : length (map space_of passed) < length definitions = omega (arith, so_far, below, as_long) in
    let is : definition ≡ get_or definitions (length (map space_of passed)) definition
    = c.index-definitions-n.is ∙ ap (λ m. get_or definitions m definition) (so_far ∙ sym as_long) in (
      ap made_of c.in_ok-push.ensures.items ∙ map-append made_one made (one ∷ []) ∙ ap (λ ms. ms ++ made_one one ∷ []) c.spaces.invariant.0
          ∙ sym (one_made definitions (map space_of passed) (space_of space) definition within is)
          ∙ ap (made_types (definitions_of definitions)) (sym (map-append space_of passed (space ∷ []))),
      omega (arith, so_far, longer),
      omega (arith, below),
      inr (omega (arith, so_far, longer)),
    )

pub spaces-preserved-else-n-definitions : goal.spaces-preserved-else-n-definitions
spaces-preserved-else-n-definitions c =
    left_out c.args.definitions.now c.spaces.yielded c.in-Some.space (made_of c.spaces.made.items) c.spaces.n c.spaces.invariant c.if-n-definitions.false

pub spaces-preserved-else-n-definitions-2 : goal.spaces-preserved-else-n-definitions-2
spaces-preserved-else-n-definitions-2 c =
    left_out c.args.definitions.now c.spaces.yielded c.in-Some.space (made_of c.spaces.made.items) c.spaces.n c.spaces.invariant c.if-n-definitions.false

pub spaces-preserved-else-n-definitions-3 : goal.spaces-preserved-else-n-definitions-3
spaces-preserved-else-n-definitions-3 c =
    left_out c.args.definitions.now c.spaces.yielded c.in-Some.space (made_of c.spaces.made.items) c.spaces.n c.spaces.invariant c.if-n-definitions.false

pub spaces-preserved-else-n-definitions-4 : goal.spaces-preserved-else-n-definitions-4
spaces-preserved-else-n-definitions-4 c =
    left_out c.args.definitions.now c.spaces.yielded c.in-Some.space (made_of c.spaces.made.items) c.spaces.n c.spaces.invariant c.if-n-definitions.false

pub spaces-preserved : goal.spaces-preserved
spaces-preserved c =
    left_out c.args.definitions.now c.spaces.yielded c.in-Some.space (made_of c.spaces.made.items) c.spaces.n c.spaces.invariant c.if-n-definitions.false
