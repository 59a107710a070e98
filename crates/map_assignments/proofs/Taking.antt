-- Identifiers that are taken one after another.
use Rattle.std.proofs.Common.{◌≡◌, ℕ, ◌+◌, ◌<◌, List, [], ◌∷◌, ◌++◌, length, drop, get_or, sym, ap, subst, ◌∙◌, append_assoc, add-one}
use Rattle.std.proofs.lemmas.List.{append-nil}
use Rattle.map_subjects.proofs.Finding.{drop-next}
use Rattle.asn_names.specs.declared.conversion.NameKind.TheVariants.{Identifier}
use Rattle.asn_names.specs.Taking.{IsTaken}
use Rattle.asn_types.specs.declared.marks.Instruction.{Instruction}
use Rattle.asn_names.specs.Restoring.{form_of}
use Rattle.map_assignments.specs.Naming.{AreTaken, text_marks, text_if}
use Rattle.map_assignments.specs.Private.Building.{LeadsToNames}

-- TEXT of one item more
pub texts-next : (before after whole : List Instruction) (gs words : List (List ℕ)) (i : ℕ) (g word : List ℕ)
    → i < length gs → g ≡ get_or gs i g → i < length words → word ≡ get_or words i word
    → after ≡ before ++ text_if (form_of g word) i word
    → before ++ text_marks i (drop i gs) (drop i words) ≡ whole
    → after ++ text_marks (i + 1) (drop (i + 1) gs) (drop (i + 1) words) ≡ whole
texts-next before after whole gs words i g word at_g here_g at here is so_far =
    let rest = text_marks (i + 1) (drop (i + 1) gs) (drop (i + 1) words) in
    ap (λ a. a ++ rest) is
    ∙ append_assoc before (text_if (form_of g word) i word) rest
    ∙ ap (λ n. before ++ (text_if (form_of g word) i word ++ text_marks n (drop (i + 1) gs) (drop (i + 1) words))) (add-one i)
    ∙ ap (λ hs. before ++ text_marks i hs (word ∷ drop (i + 1) words)) (sym (drop-next gs i g at_g here_g))
    ∙ ap (λ ws. before ++ text_marks i (drop i gs) ws) (sym (drop-next words i word at here))
    ∙ so_far

-- ---- identifiers for an order of elements

-- none are made
pub names-init : (scope made names : List (List ℕ)) → made ≡ [] → LeadsToNames scope scope made names names
names-init scope made names none gs taken = subst (λ m. AreTaken scope names (m ++ gs)) (sym none) taken

pub names-next : (first scope made after grown : List (List ℕ)) (name g : List ℕ) (rest names : List (List ℕ)) → IsTaken Identifier scope name g → after ≡ scope ++ g ∷ []
    → grown ≡ made ++ g ∷ [] → LeadsToNames first scope made (name ∷ rest) names → LeadsToNames first after grown rest names
names-next first scope made after grown name g rest names taken noted is so_far gs more =
    subst (AreTaken first names) (sym (append_assoc made (g ∷ []) gs) ∙ ap (λ a. a ++ gs) (sym is))
    (so_far (g ∷ gs) (taken, subst (λ a. AreTaken a rest gs) noted more))

pub names-end : (first scope made names : List (List ℕ)) → LeadsToNames first scope made [] names → AreTaken first names made
names-end first scope made names so_far = subst (AreTaken first names) (append-nil made) (so_far [] tt)
