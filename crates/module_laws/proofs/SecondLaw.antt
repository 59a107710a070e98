-- A text without a fault is the print of the module that it tells, and this is printable.
use Rattle.std.proofs.Common.{◌≡◌, ℕ, zero, suc, ◌<◌, ◌≤◌, ◌^◌, false, Some, List, [], ◌∷◌, ◌++◌, length, map, All, is_some, refl, sym, ap, ap₂, ◌∙◌, subst, arith, codes, length-append}
use Rattle.std.specs.Prelude.{bytes_eq, slice_get}
use Rattle.std.specs.List.{flat_map, IsDistinct}
use Rattle.std.proofs.lemmas.List.Elements.{All-nil, All-cons}
use Rattle.base_trees.specs.Rose.{Rose, node, label_of}
use Rattle.asn_names.specs.ReservedWords.{reserved_words}
use Rattle.asn_names.proofs.Apart.{lacks-Contains}
use Rattle.asn_types.specs.declared.modules.Assignment.{Assignment}
use Rattle.asn_types.specs.Bounds.{AreBounded}
use Rattle.asn_types.specs.Modules as modules
use Rattle.module_print.specs.Printed.{printed_assignment, opening, closing}
use Rattle.module_text.specs.declared.types.PlainLabel.{PlainLabel}
use Rattle.module_text.specs.declared.modules.PlainAssignment.{PlainAssignment}
use Rattle.module_text.specs.Texts.{part_marks_text, type_text, assignment_text}
use Rattle.module_text.specs.Plain.{IsType, IsAssignment, limit}
use Rattle.module_text.specs.Depth.{deep_types}
use Rattle.module_text.specs.declared.spots.Spot.TheVariants.{Elsewhere}
use Rattle.module_text.specs.Faults.{space_at}
use Rattle.module_text.specs.Meaning.{type_meant, assignment_meant, module_meant}
use Rattle.module_text.specs.Printable.{IsPrintableAssignment}
use Rattle.module_laws.specs.Laws.{NoFaultIsPrintable}
use Rattle.module_laws.proofs.NameLaws.{reference-bytes}
use Rattle.module_laws.proofs.PartMarkLaws.{part_marks-printable}
use Rattle.module_laws.proofs.Firsts.{AreNew, new-distinct, mapped}
use Rattle.module_laws.proofs.SimpleLaws.{all_head, all_tail}
use Rattle.module_laws.proofs.ResolveLaws.{AllLead, AllTyped, AllLeadIn, Leads, LeadsIn, leads-in}
use Rattle.module_laws.proofs.DepthLaws.{nothing-front, nothing-behind, fits, height-same}
use Rattle.module_laws.proofs.Clean.{TypeClean, AssignmentClean, AssignmentsClean, assignments-clean, leading}
use Rattle.module_laws.proofs.StandardLaws.{attribute-is}
use Rattle.module_laws.proofs.WellLaws.{type-good}
use Rattle.module_laws.proofs.PrintLaws.{AllClean, type-printed}
use Rattle.module_laws.proofs.DefaultLaws.{notates}

-- ---- lists

all_got : {A : Type 0} (Q : A → Type 0) (xs : List A) (k : ℕ) (x : A) → All Q xs → slice_get xs k ≡ Some x → Q x
all_got Q [] k x h e = absurd (cc)
all_got Q (y ∷ ys) zero x h e = let same : y ≡ x = cc in subst Q same (all_head Q y ys h)
all_got Q (y ∷ ys) (suc k) x h e = all_got Q ys k x (all_tail Q y ys h) e

leads_of : (P : List PlainAssignment) (t : Rose PlainLabel) → LeadsIn P t → Leads P (label_of t).form
leads_of P (node l ts) h = leads-in P l ts h

references_are : (P others : List PlainAssignment) → map (λ (a : Assignment). a.reference) (map (assignment_meant P) others) ≡ map (λ (a : PlainAssignment). a.reference) others
references_are P [] = refl
references_are P (a ∷ others) = ap (λ names. a.reference ∷ names) (references_are P others)

references_new : (P : List PlainAssignment) (before : List (List ℕ)) (others : List PlainAssignment) → AssignmentsClean P before others → AreNew before (map (λ (a : PlainAssignment). a.reference) others)
references_new P before [] c = tt
references_new P before (a ∷ others) c = (c.0.new, references_new P (before ++ a.reference ∷ []) others c.1)

mapped_long : {A B : Type 0} (f : A → B) (xs : List A) → length (map f xs) ≡ length xs
mapped_long f [] = refl
mapped_long f (x ∷ xs) = ap suc (mapped_long f xs)

-- an assignment has bytes
assignment_long : (a : PlainAssignment) → suc (length (type_text 0 a.body)) ≤ length (assignment_text a)
assignment_long a =
    let name = a.reference ++ codes " ::= " in
    let marks = part_marks_text a.marks in
    let text = type_text 0 a.body in
    omega (arith, length-append (name ++ (marks ++ text)) (codes "\n"), length-append name (marks ++ text), length-append marks text)

as_many : (others : List PlainAssignment) → length others ≤ length (flat_map assignment_text others)
as_many [] = omega arith
as_many (a ∷ others) = omega (arith, as_many others, assignment_long a, length-append (assignment_text a) (flat_map assignment_text others))

-- ---- assignments

module _ (P : List PlainAssignment) where
  clean_got : (before : List (List ℕ)) (others : List PlainAssignment) (k : ℕ) (a : PlainAssignment) → AssignmentsClean P before others → slice_get others k ≡ Some a → TypeClean P Elsewhere false a.body
  clean_got before [] k a c e = absurd (cc)
  clean_got before (b ∷ others) zero a c e = let same : b ≡ a = cc in subst (λ (x : PlainAssignment). TypeClean P Elsewhere false x.body) same c.0.body
  clean_got before (b ∷ others) (suc k) a c e = clean_got (before ++ b.reference ∷ []) others k a c.1 e

  module _ (plain : All IsAssignment P) (clean : AssignmentsClean P [] P) where
    typed : AllTyped P
    typed k t e =
        let a = mapped (λ (a : PlainAssignment). a.body) (slice_get P k) t e in
        subst (λ u. IsType u) a.2 (all_got IsAssignment P k a.0 plain a.1).body

    bodies : AllClean P
    bodies k t e =
        let a = mapped (λ (a : PlainAssignment). a.body) (slice_get P k) t e in
        subst (λ u. TypeClean P Elsewhere false u) a.2 (clean_got [] P k a.0 clean a.1)

    deep : AllLeadIn P
    deep k t e = leading P t Elsewhere false (typed k t e) (bodies k t e)

    leads : AllLead P
    leads k t e = leads_of P t (deep k t e)

    -- what holds of an assignment
    record Good (a : PlainAssignment) : Type 0 where
      pub sound : modules.IsAssignment (module_meant P) (assignment_meant P a)
      pub bounded : AreBounded (type_meant P Elsewhere a.body)
      pub printable : IsPrintableAssignment (assignment_meant P a)
      pub written : printed_assignment (module_meant P) (assignment_meant P a) ≡ assignment_text a

    good : (before : List (List ℕ)) (a : PlainAssignment) → IsAssignment a → AssignmentClean P before a → deep_types limit a.body ≡ [] → length (assignment_text a) < 2 ^ 32 → Good a
    good before a is c shallow short =
        let h = leading P a.body Elsewhere false is.body c.body in
        let small : length (type_text 0 a.body) < 2 ^ 32 = omega (arith, short, assignment_long a) in
        let m = type-good P leads typed deep a.body 0 Elsewhere false is.body c.body h c.chains small in
        let simple = is_some (space_at P Elsewhere a.marks a.body) in
        let text = type-printed P leads typed bodies (notates P) a.body 0 Elsewhere false simple a.reference a.marks is.body c.body h small is.marks c.marks in
        let levels = fits a.body limit is.body shallow in
        record {
          sound = record {
            allowed = m.allowed;
            types = m.well;
            items = m.named;
            attribute = λ e. attribute-is P leads typed Elsewhere a.reference a.marks a.body is.body (leads_of P a.body h) c.marks e;
          };
          bounded = m.bounded;
          printable = record {
            reference = is.reference;
            free = lacks-Contains a.reference reserved_words c.free;
            marks = part_marks-printable simple a.reference a.marks (reference-bytes a.reference is.reference) is.marks c.marks;
            types = m.printable;
            depth = subst (λ n. n ≤ limit) (sym (height-same P a.body Elsewhere is.body)) levels;
          };
          written = ap (λ t. a.reference ++ codes " ::= " ++ t ++ codes "\n") text;
        }

    abbrev AllGood : List PlainAssignment → Type 0
    AllGood [] = Unit {0}
    AllGood (a ∷ others) = Good a × AllGood others

    goods : (before : List (List ℕ)) (others : List PlainAssignment) → All IsAssignment others → AssignmentsClean P before others → flat_map (λ a. deep_types limit a.body) others ≡ []
        → length (flat_map assignment_text others) < 2 ^ 32 → AllGood others
    goods before [] is c shallow short = tt
    goods before (a ∷ others) is c shallow short =
        let long = length-append (assignment_text a) (flat_map assignment_text others) in (
          good before a (all_head IsAssignment a others is) c.0 (nothing-front (deep_types limit a.body) _ shallow) (omega (arith, short, long)),
          goods (before ++ a.reference ∷ []) others (all_tail IsAssignment a others is) c.1 (nothing-behind (deep_types limit a.body) _ shallow) (omega (arith, short, long)),
        )

    all_sound : (others : List PlainAssignment) → AllGood others → All (modules.IsAssignment (module_meant P)) (map (assignment_meant P) others)
    all_sound [] g = All-nil (modules.IsAssignment (module_meant P))
    all_sound (a ∷ others) g = All-cons (modules.IsAssignment (module_meant P)) (assignment_meant P a) (map (assignment_meant P) others) g.0.sound (all_sound others g.1)

    all_bounded : (others : List PlainAssignment) → AllGood others → All (λ (a : Assignment). AreBounded a.body) (map (assignment_meant P) others)
    all_bounded [] g = All-nil (λ (a : Assignment). AreBounded a.body)
    all_bounded (a ∷ others) g = All-cons (λ (a : Assignment). AreBounded a.body) (assignment_meant P a) (map (assignment_meant P) others) g.0.bounded (all_bounded others g.1)

    all_printable : (others : List PlainAssignment) → AllGood others → All IsPrintableAssignment (map (assignment_meant P) others)
    all_printable [] g = All-nil IsPrintableAssignment
    all_printable (a ∷ others) g = All-cons IsPrintableAssignment (assignment_meant P a) (map (assignment_meant P) others) g.0.printable (all_printable others g.1)

    all_written : (others : List PlainAssignment) → AllGood others → flat_map (printed_assignment (module_meant P)) (map (assignment_meant P) others) ≡ flat_map assignment_text others
    all_written [] g = refl
    all_written (a ∷ others) g = ap₂ (λ t ts. t ++ ts) g.0.written (all_written others g.1)

pub no_fault_printable : NoFaultIsPrintable
no_fault_printable bytes P small is none =
    let clean = assignments-clean P [] P none in
    let text = is.text in
    let all = flat_map assignment_text P in
    let whole = length-append (opening ++ all) closing in
    let front = length-append opening all in
    let same = ap length text in
    let short : length all < 2 ^ 32 = omega (arith, whole, front, same, small) in
    let g = goods P is.plain clean [] P is.plain clean is.shallow short in
    record {
      printable = record {
        sound = record {
          counted = omega (arith, short, as_many P, mapped_long (assignment_meant P) P);
          distinct = subst (λ names. IsDistinct bytes_eq names) (sym (references_are P P)) (new-distinct [] (map (λ (a : PlainAssignment). a.reference) P) (references_new P [] P clean));
          assignments = all_sound P is.plain clean P g;
        };
        bounded = all_bounded P is.plain clean P g;
        assignments = all_printable P is.plain clean P g;
      };
      text = ap (λ t. opening ++ t ++ closing) (all_written P is.plain clean P g) ∙ text;
    }
