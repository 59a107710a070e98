-- References that are resolved by tables of names.
use Rattle.std.proofs.Common.{◌≡◌, ℕ, ◌+◌, ◌<◌, Bool, true, false, List, [], ◌∷◌, ◌++◌, length, take, get_or, Option, Some, None, refl, sym, ap, ◌∙◌, append-nil, Bor}
use Rattle.std.specs.Prelude.{◌||◌, cond}
use Rattle.std.specs.List.{filter_map}
use Rattle.std.specs.Cmp.{both_ways}
use Rattle.std.specs.Ordering.{is_eq}
use Rattle.std.specs.BTreeSet as sorted
use Rattle.std.specs.BTreeSet.{BTreeSet}
use Rattle.std.proofs.lemmas.List.{map_more}
use Rattle.std.proofs.lemmas.List.Elements.{filter_map-append}
use Rattle.std.proofs.lemmas.List.Folds.{list_any-append}
use Rattle.base_texts.specs.declared.texts.Name.{Name}
use Rattle.base_texts.specs.Names.{name_eq, name_cmp}
use Rattle.base_texts.proofs.NameLaws.{name_eq-Decides}
use Rattle.link_names.specs.declared.faults.LinkingFault.{LinkingFault}
use Rattle.link_names.specs.declared.global_names.NamedPart.{NamedPart}
use Rattle.link_names.specs.declared.references.Mention.{Mention as Kept}
use Rattle.link_names.specs.declared.references.Need.{Need}
use Rattle.link_names.specs.declared.references.Need.TheVariants as need
use Rattle.link_names.specs.Globals.{is_there}
use Rattle.link_names.specs.Private.Mentioned.{mentions_of, mention_of}
use Rattle.link_names.specs.Private.NameTables.{Agree}
use Rattle.link_names.specs.Order.{IsFirstOf, earlier}
use Rattle.link_names.specs.References.{Mention}
use Rattle.link_names.specs.Resolution.{Names, wrong, fault_of, unless_there}
use Rattle.link_names.specs.Seen.{globals_of, global_of}
use Rattle.link_names.specs.Private.Tables.{holds}
use Rattle.link_names.proofs.Firsts.{one_more}
use Rattle.link_names.proofs.Placing.{name_test}

turned : (a b : Name) → name_eq a b ≡ name_eq b a
turned a b =
    both_ways (name_eq a b) (name_eq b a)
    (λ e. (name_eq-Decides b a).1 (sym ((name_eq-Decides a b).0 e)))
    (λ e. (name_eq-Decides a b).1 (sym ((name_eq-Decides b a).0 e)))

either : (b c : Bool) → cond b true c ≡ (c || (b || false))
either true true = refl
either true false = refl
either false true = refl
either false false = refl

-- a set with one name more
pub one_name : (gs : List NamedPart) (i : ℕ) (g : NamedPart) (old new : BTreeSet (Bor Name)) → i < length gs → g ≡ get_or gs i g
    → ((a : Name) → holds old a ≡ is_there (globals_of (take i gs)) a)
    → sorted.Updates (λ x y. name_cmp x.now y.now) old new g.name true
    → (a : Name) → holds new a ≡ is_there (globals_of (take (i + 1) gs)) a
one_name gs i g old new lt is so_far up a =
    let q : Bor Name = record { ref_ptr = (0, 0); now = a } in
    let at : holds new a ≡ cond (is_eq (name_cmp g.name.now a)) true (holds old a) = up.0 q in
    let all : globals_of (take (i + 1) gs) ≡ globals_of (take i gs) ++ global_of g ∷ [] =
    map_more global_of gs i g lt ∙ ap (λ x. globals_of (take i gs) ++ global_of x ∷ []) (sym is) in
    at ∙ ap (λ b. cond b true (holds old a)) (name_test g.name.now a ∙ turned g.name.now a) ∙ ap (λ b. cond (name_eq a g.name.now) true b) (so_far a)
    ∙ either (name_eq a g.name.now) (is_there (globals_of (take i gs)) a)
    ∙ sym (ap (λ xs. is_there xs a) all ∙ list_any-append (λ h. name_eq a h.name) (globals_of (take i gs)) (global_of g ∷ []))

module _ (F : Mention → Option LinkingFault) (ms : List Kept) (i : ℕ) (m : Kept) (lt : i < length ms) (is : m ≡ get_or ms i m) (found : Option LinkingFault)
    (so_far : IsFirstOf (filter_map F (mentions_of (take i ms))) found) where
  all : mentions_of (take (i + 1) ms) ≡ mentions_of (take i ms) ++ mention_of m ∷ []
  all = map_more mention_of ms i m lt ∙ ap (λ x. mentions_of (take i ms) ++ mention_of x ∷ []) (sym is)

  told : filter_map F (mentions_of (take (i + 1) ms)) ≡ filter_map F (mentions_of (take i ms)) ++ filter_map F (mention_of m ∷ [])
  told = ap (filter_map F) all ∙ filter_map-append F (mentions_of (take i ms)) (mention_of m ∷ [])

  pub wrong_one : (f : LinkingFault) → F (mention_of m) ≡ Some f → IsFirstOf (filter_map F (mentions_of (take (i + 1) ms))) (earlier found f)
  wrong_one f e =
      let one : filter_map F (mention_of m ∷ []) ≡ f ∷ [] = rw e refl in
      rw (told ∙ ap (λ fs. filter_map F (mentions_of (take i ms)) ++ fs) one) (one_more (filter_map F (mentions_of (take i ms))) found f so_far)

  pub right_one : F (mention_of m) ≡ None → IsFirstOf (filter_map F (mentions_of (take (i + 1) ms))) found
  right_one e =
      let none : filter_map F (mention_of m ∷ []) ≡ [] = rw e refl in
      rw (told ∙ ap (λ fs. filter_map F (mentions_of (take i ms)) ++ fs) none ∙ append-nil (filter_map F (mentions_of (take i ms)))) so_far

same_wrong : (n m : Names) → Agree n m → (k : Need) (a : Name) → wrong n k a ≡ wrong m k a
same_wrong n m agree need.Element a = ap unless_there (agree a).0
same_wrong n m agree need.Attribute a = ap unless_there (agree a).1
same_wrong n m agree need.Type a = ap unless_there (agree a).2
same_wrong n m agree need.Simple a = rw ((agree a).2, (agree a).3) refl

pub same_faults : (n m : Names) → Agree n m → (ms : List Mention) → filter_map (fault_of n) ms ≡ filter_map (fault_of m) ms
same_faults n m agree [] = refl
same_faults n m agree (x ∷ xs) =
    rw (same_wrong n m agree x.need x.name, same_faults n m agree xs) refl
