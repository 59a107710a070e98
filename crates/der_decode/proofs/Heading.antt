-- A node with an identifier, up to its contents.
use Rattle.std.proofs.Common.{◌≡◌, ℕ, ◌+◌, ◌<◌, ◌≤◌, true, false, cond, not, ltb, eqb, ◌&&◌, List, [], ◌∷◌, length, drop, take, refl, sym, ap, ◌∙◌, arith, Option, Some, None, Result, Ok, Err}
use Rattle.std.proofs.lemmas.Bool.{and_parts, lt-ltb, le-ltb, lt-leb, le-leb}
use Rattle.std.proofs.lemmas.List.{length-drop}
use Rattle.base_trees.specs.Rose.{Rose, label_of, kids_of}
use Rattle.simple_types.specs.declared.labels.ValueLabel.{ValueLabel}
use Rattle.asn_types.specs.declared.modules.Assignment.{Assignment}
use Rattle.asn_types.specs.declared.types.Component.{Component}
use Rattle.asn_types.specs.declared.types.Form.{Form}
use Rattle.asn_types.specs.declared.types.Form.TheVariants as form
use Rattle.asn_types.specs.declared.types.TypeLabel.{TypeLabel}
use Rattle.asn_types.specs.Parts.{parts_of}
use Rattle.base_codecs.specs.declared.spots.Spot.{Spot}
use Rattle.base_codecs.specs.Reading.{stop_if, entered_at, ended_at}
use Rattle.base_codecs.proofs.Codecs.{stop_not, same_spot}
use Rattle.base_codecs.proofs.Sequences.{cond_true, cond_false}
use Rattle.der_fields.specs.declared.stops.Stop.{Stop}
use Rattle.der_fields.specs.declared.stops.Why.TheVariants.{Tag, TooDeep, TooMany}
use Rattle.der_fields.specs.Octets.{begins}
use Rattle.der_fields.specs.FieldsReading.{stop_at, Octets, sized_at, tagged_at, expected_at}
use Rattle.der_fields.specs.Encoding.{TaggedPlace, identifier, is_open}
use Rattle.der_fields.specs.Reading.{contents_at, sequence_at, choice_at, sequence_of_at, headed_at, is_over, over}
use Rattle.der_decode.specs.declared.faults.DerEnd.{DerEnd}
use Rattle.der_decode.specs.declared.faults.DerEnd.TheVariants as fault
use Rattle.der_decode.specs.declared.fields.Window.{Window}
use Rattle.der_decode.specs.Private.Bodies.{HasNoKids, IsChoice, kid_at, headed_read, contents_read, item_place}
use Rattle.der_decode.specs.Private.Windows.{IsWindow, HasNoWindow}
use Rattle.der_decode.specs.Private.Showing.{Fails, ShowsHead, spot, behind_head}

-- octets that begin so are no fewer
begins-long : (xs ys : List ℕ) → begins xs ys ≡ true → length xs ≤ length ys
begins-long [] ys e = omega arith
begins-long (x ∷ xs) [] e = absurd cc
begins-long (x ∷ xs) (y ∷ ys) e = let k = begins-long xs ys (and_parts (eqb x y) (begins xs ys) e).1 in omega (arith, k)

pub head-inside : (head X : List ℕ) (at : ℕ) → at ≤ length X → begins head (drop at X) ≡ true → at + length head ≤ length X
head-inside head X at inside e = omega (arith, inside, begins-long head (drop at X) e, length-drop at X)

-- ENTERING
module _ (depth : ℕ) (s : Spot) where
  pub over-deep : 64 < depth → (is_over depth s ≡ true) × (stop_at s.at TooDeep ≡ over depth s)
  over-deep past =
      let e = lt-leb depth 64 past in
      (ap (λ b. not (b && ltb s.nodes 1048576)) e, sym (ap (λ b. stop_at s.at (cond b TooMany TooDeep)) e))

  pub over-many : depth ≤ 64 → 1048576 ≤ s.nodes → (is_over depth s ≡ true) × (stop_at s.at TooMany ≡ over depth s)
  over-many shallow many =
      let e = le-leb depth 64 shallow in
      (ap (λ b. not (b && ltb s.nodes 1048576)) e ∙ ap (λ b. not (true && b)) (le-ltb s.nodes 1048576 many), sym (ap (λ b. stop_at s.at (cond b TooMany TooDeep)) e))

  pub over-not : depth ≤ 64 → s.nodes < 1048576 → is_over depth s ≡ false
  over-not shallow few = ap (λ b. not (b && ltb s.nodes 1048576)) (le-leb depth 64 shallow) ∙ ap (λ b. not (true && b)) (lt-ltb s.nodes 1048576 few)

  -- one more node may stand, or not
  module _ (read : Octets (Rose ValueLabel)) (X : List ℕ) where
    pub enters : is_over depth s ≡ false → entered_at (is_over depth) (over depth) read X s ≡ read X (spot s.at (s.nodes + 1))
    unfolding entered_at
    enters e = stop_not (is_over depth s) (over depth s) (read X (spot (s.at + 0) (s.nodes + 1))) e ∙ ap (λ r. read X r) (same_spot (s.at + 0) s.at (s.nodes + 1) (s.nodes + 1) (omega arith) refl)

    pub enters_not : is_over depth s ≡ true → entered_at (is_over depth) (over depth) read X s ≡ Err (over depth s)
    unfolding entered_at
    enters_not e = ap (λ b. stop_if b (over depth s) (read X (spot (s.at + 0) (s.nodes + 1)))) e

-- AN IDENTIFIER
module _ (depth : ℕ) (head : List ℕ) (X : List ℕ) (s : Spot) (contents : Octets (Rose ValueLabel)) where
  abbrev inner : Octets (Rose ValueLabel)
  inner = tagged_at head (sized_at contents)

  expected : begins head (drop s.at X) ≡ true → behind_head depth head contents X s ≡ entered_at (is_over depth) (over depth) inner X s
  unfolding expected_at
  expected e = stop_not (not (begins head (drop s.at X))) (stop_at s.at Tag) (entered_at (is_over depth) (over depth) inner X s) (ap not e)

  pub head_other : begins head (drop s.at X) ≡ false → behind_head depth head contents X s ≡ Err (stop_at s.at Tag)
  unfolding expected_at
  head_other e = ap (λ b. stop_if (not b) (stop_at s.at Tag) (entered_at (is_over depth) (over depth) inner X s)) e

  pub head_over : begins head (drop s.at X) ≡ true → is_over depth s ≡ true → behind_head depth head contents X s ≡ Err (over depth s)
  head_over e k = expected e ∙ enters_not depth s inner X k

  pub head_goes : begins head (drop s.at X) ≡ true → is_over depth s ≡ false → behind_head depth head contents X s ≡ sized_at contents X (spot (s.at + length head) (s.nodes + 1))
  unfolding tagged_at
  head_goes e k =
      expected e ∙ enters depth s inner X k
      ∙ stop_not (not (begins head (drop s.at X))) (stop_at s.at Tag) (sized_at contents X (spot (s.at + length head) (s.nodes + 1 + 0))) (ap not e)
      ∙ ap (λ r. sized_at contents X r) (same_spot (s.at + length head) (s.at + length head) (s.nodes + 1 + 0) (s.nodes + 1) refl (omega arith))

-- WHICH NODES HAVE ONE
pub leaf-closed : (tag : Option ℕ) (f : Form) → HasNoKids f → is_open tag f ≡ false
leaf-closed None form.Bool h = refl
leaf-closed None (form.Int least greatest) h = refl
leaf-closed None (form.Numbers numbers) h = refl
leaf-closed None (form.Words identifiers words) h = refl
leaf-closed None (form.Order identifiers) h = refl
leaf-closed None (form.Utf8 least most class) h = refl
leaf-closed None (form.Sequence parts) h = absurd h
leaf-closed None (form.Choice parts) h = absurd h
leaf-closed None (form.SequenceOf part least most) h = absurd h
leaf-closed None (form.Ref to) h = absurd h
leaf-closed (Some i) f h = refl

pub open-choice : (tag : Option ℕ) (f : Form) → is_open tag f ≡ true → IsChoice f
open-choice None (form.Choice parts) e = tt
open-choice None form.Bool e = absurd cc
open-choice None (form.Int least greatest) e = absurd cc
open-choice None (form.Numbers numbers) e = absurd cc
open-choice None (form.Words identifiers words) e = absurd cc
open-choice None (form.Order identifiers) e = absurd cc
open-choice None (form.Utf8 least most class) e = absurd cc
open-choice None (form.Sequence parts) e = absurd cc
open-choice None (form.SequenceOf part least most) e = absurd cc
open-choice None (form.Ref to) e = absurd cc
open-choice (Some i) f e = absurd cc

module _ (M : List Assignment) (kid : TaggedPlace → Octets (Rose ValueLabel)) (depth : ℕ) (tag : Option ℕ) (l : TypeLabel) (ts : List (Rose TypeLabel)) (X : List ℕ) (s : Spot) where
  abbrev opened : Result (Rose ValueLabel × Spot) Stop
  opened = choice_at M (λ p. entered_at (is_over depth) (over depth) (kid p)) l ts (parts_of l.form) X s

  abbrev closed : Result (Rose ValueLabel × Spot) Stop
  closed = behind_head depth (identifier tag l.form) (contents_at M kid s.at l ts l.form) X s

  pub headed-open : is_open tag l.form ≡ true → headed_at M kid depth tag l ts X s ≡ opened
  unfolding headed_at
  headed-open e = cond_true (is_open tag l.form) opened closed e

  pub headed-closed : is_open tag l.form ≡ false → headed_at M kid depth tag l ts X s ≡ closed
  unfolding headed_at
  headed-closed e = cond_false (is_open tag l.form) opened closed e

-- A NODE WITH KIDS that has an identifier, up to its contents
module _ (M : List Assignment) (depth : ℕ) (tag : Option ℕ) (u : Rose TypeLabel) (X : List ℕ) (s : Spot) (closed : is_open tag (label_of u).form ≡ false) where
  abbrev its_contents : Octets (Rose ValueLabel)
  its_contents Y r = contents_read M depth s.at u Y r

  closed-is : headed_read M depth tag u X s ≡ behind_head depth (identifier tag (label_of u).form) its_contents X s
  closed-is = headed-closed M (kid_at M depth) depth tag (label_of u) (kids_of u) X s closed

  pub headless : (e : DerEnd) → ShowsHead (Err e) depth (identifier tag (label_of u).form) X s → Fails e (headed_read M depth tag u X s)
  headless (fault.Stopped stop) h = closed-is ∙ h its_contents
  headless fault.Memory h = tt

  pub headed : (w : Window) → ShowsHead (Ok w) depth (identifier tag (label_of u).form) X s → headed_read M depth tag u X s ≡ contents_read M depth s.at u (take w.end X) (spot w.at (s.nodes + 1))
  headed w h = closed-is ∙ h its_contents

-- CONTENTS, by the form of the type
module _ (M : List Assignment) (depth begin : ℕ) (u : Rose TypeLabel) (X : List ℕ) (s : Spot) where
  abbrev by_form : Form → Result (Rose ValueLabel × Spot) Stop
  by_form f = contents_at M (kid_at M depth) begin (label_of u) (kids_of u) f X s

  pub contents-sequence : (parts : List Component) → (label_of u).form ≡ form.Sequence parts → contents_read M depth begin u X s ≡ sequence_at M (kid_at M depth) (label_of u) (kids_of u) parts X s
  unfolding contents_at
  contents-sequence parts e = ap by_form e

  pub contents-choice : (parts : List Component) → (label_of u).form ≡ form.Choice parts → contents_read M depth begin u X s ≡ ended_at (λ r. stop_at r.at Tag) (choice_at M (kid_at M depth) (label_of u) (kids_of u) parts) X s
  unfolding contents_at
  contents-choice parts e = ap by_form e

  pub contents-many : (part : Component) (least : ℕ) (most : Option ℕ) → (label_of u).form ≡ form.SequenceOf part least most → contents_read M depth begin u X s ≡ sequence_of_at (kid_at M depth) begin least most (item_place u part) X s
  unfolding contents_at
  contents-many part least most e = ap by_form e

-- THE LENGTH behind an identifier of so many octets
module _ (depth : ℕ) (head : List ℕ) (X : List ℕ) (s : Spot) (n : ℕ) (long : n ≡ length head) (is : begins head (drop s.at X) ≡ true) (few : is_over depth s ≡ false) where
  length-here : (contents : Octets (Rose ValueLabel)) → behind_head depth head contents X s ≡ sized_at contents X (spot (s.at + n) (s.nodes + 1))
  length-here contents = head_goes depth head X s contents is few ∙ ap (λ m. sized_at contents X (spot (s.at + m) (s.nodes + 1))) (sym long)

  pub head_windowless : (stop : Stop) → HasNoWindow X (spot (s.at + n) (s.nodes + 1)) stop → ShowsHead (Err (fault.Stopped stop)) depth head X s
  head_windowless stop h = λ contents. length-here contents ∙ h contents

  pub head_window : (w : Window) → IsWindow X (spot (s.at + n) (s.nodes + 1)) w.at w.end → ShowsHead (Ok w) depth head X s
  head_window w h = λ contents. length-here contents ∙ h contents
