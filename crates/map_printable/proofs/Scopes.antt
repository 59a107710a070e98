-- The identifiers of the parts of a type of a map are identifiers, and differ.
use Rattle.std.proofs.Common.{◌≡◌, ℕ, Bool, true, false, List, [], ◌∷◌, ◌++◌, map, All, Contains, inl, inr, refl, sym, subst, codes}
use Rattle.std.specs.Prelude.{bytes_eq}
use Rattle.std.specs.Str.{chars}
use Rattle.std.specs.List.{IsDistinct}
use Rattle.std.proofs.lemmas.Slice.Eq.{bytes_eq-Decides}
use Rattle.std.proofs.lemmas.List.Elements.{All-nil, All-cons, All-weaker, recursion_from_All, Contains-append_left, Contains-push}
use Rattle.std.proofs.lemmas.Map.Keys.{IsDistinct-cons}
use Rattle.base_trees.specs.Rose.{Roses}
use Rattle.simple_types.specs.Space.{Spaces, none, more}
use Rattle.asn_names.specs.declared.conversion.NameKind.TheVariants.{Identifier}
use Rattle.asn_names.specs.Taking.{IsTaken}
use Rattle.asn_types.specs.declared.types.Component.{Component}
use Rattle.asn_types.specs.declared.types.TypeLabel.{TypeLabel}
use Rattle.map_subjects.specs.declared.subjects.Subject.{Subject}
use Rattle.map_assignments.specs.Plans.{a_sequence, a_choice, Label, attribute, element, group, elements, groups, texts, order, item, base, content, Parts, finish, part}
use Rattle.map_assignments.specs.Planning.{labels}
use Rattle.map_assignments.specs.Naming.{identifier_of, wanted, AreTaken, AreMembers, AreNamed}
use Rattle.module_text.specs.Names.{is_identifier}
use Rattle.module_text.specs.Printable.{IsIdentifier, AreIdentifiers}
use Rattle.map_printable.proofs.Names.{converted-identifier, longer-identifier, taken-identifier}

-- ---- what identifiers are made from

abbrev pub is_item_label : Label → Bool
is_item_label item = true
is_item_label _ = false

text-identifier : (text : List ℕ) → is_identifier (identifier_of text) ≡ true
text-identifier text = converted-identifier (chars text)

pub wanted-identifier : (l : Label) → is_item_label l ≡ false → is_identifier (wanted l) ≡ true
wanted-identifier (attribute name standard) e = text-identifier name.local
wanted-identifier (element name) e = text-identifier name.local
wanted-identifier (group a_sequence) e = refl
wanted-identifier (group a_choice) e = refl
wanted-identifier (elements name) e = longer-identifier (identifier_of name.local) (codes "list") (text-identifier name.local) refl
wanted-identifier (groups a_sequence) e = refl
wanted-identifier (groups a_choice) e = refl
wanted-identifier texts e = refl
wanted-identifier order e = refl
wanted-identifier item e = absurd (cc)
wanted-identifier base e = refl
wanted-identifier content e = refl

-- ---- identifiers that are taken one after another

taken-apart : (before : List (List ℕ)) (name given : List ℕ) → IsTaken Identifier before name given → Contains before given → ⊥
taken-apart before name given (inl (free, is)) has = free.0 (subst (Contains before) is has)
taken-apart before name given (inr (_, n, least, is)) has = least.free.0 (subst (Contains before) is has)

further : (before : List (List ℕ)) (r : List ℕ) (x : List ℕ) → (Contains (before ++ r ∷ []) x → ⊥) → bytes_eq r x ≡ false
further before r x lacks = by (bytes_eq r x) refl
  where
    by : (b : Bool) → bytes_eq r x ≡ b → bytes_eq r x ≡ false
    by true e = absurd (lacks (subst (Contains (before ++ r ∷ [])) ((bytes_eq-Decides r x).0 e) (Contains-push before r)))
    by false e = e

abbrev AreIdentified : List (List ℕ) → Type 0
AreIdentified [] = Unit {0}
AreIdentified (name ∷ names) = (is_identifier name ≡ true) × AreIdentified names

-- identifiers that differ from one another and from those before
record Scope (before gs : List (List ℕ)) : Type 0 where
  identifiers : All IsIdentifier gs
  distinct : IsDistinct bytes_eq gs
  new : All (λ r. Contains before r → ⊥) gs

taken-scope : (before names gs : List (List ℕ)) → AreTaken before names gs → AreIdentified names → Scope before gs
unfolding IsDistinct
taken-scope before [] [] h are = record { identifiers = All-nil IsIdentifier; distinct = tt; new = All-nil (λ r. Contains before r → ⊥) }
taken-scope before [] (g ∷ gs) h are = absurd h
taken-scope before (name ∷ names) [] h are = absurd h
taken-scope before (name ∷ names) (g ∷ gs) h are =
    let rest = taken-scope (before ++ g ∷ []) names gs h.1 are.1 in
    record {
      identifiers = All-cons IsIdentifier g gs (taken-identifier before name g are.0 h.0) rest.identifiers;
      distinct =
          IsDistinct-cons bytes_eq g gs
          (recursion_from_All (λ x. bytes_eq g x ≡ false) gs
          (All-weaker (λ r. Contains (before ++ g ∷ []) r → ⊥) (λ x. bytes_eq g x ≡ false) (λ x lacks. further before g x lacks) gs rest.new))
          rest.distinct;
      new =
          All-cons (λ r. Contains before r → ⊥) g gs (taken-apart before name g h.0)
          (All-weaker (λ r. Contains (before ++ g ∷ []) r → ⊥) (λ r. Contains before r → ⊥) (λ r lacks has. lacks (Contains-append_left before (g ∷ []) r has)) gs rest.new);
    }

taken-identifiers : (before names gs : List (List ℕ)) → AreTaken before names gs → AreIdentified names → AreIdentifiers gs
taken-identifiers before names gs h are = let scope = taken-scope before names gs h are in (scope.identifiers, scope.distinct)

-- ---- of words

words-identified : (words : List (List ℕ)) → AreIdentified (map identifier_of words)
words-identified [] = tt
words-identified (word ∷ words) = (text-identifier word, words-identified words)

pub words-identifiers : (words gs : List (List ℕ)) → AreTaken [] (map identifier_of words) gs → AreIdentifiers gs
words-identifiers words gs h = taken-identifiers [] (map identifier_of words) gs h (words-identified words)

-- ---- of parts

abbrev pub NoItems : List Label → Type 0
NoItems [] = Unit {0}
NoItems (l ∷ ls) = (is_item_label l ≡ false) × NoItems ls

labels-identified : (ls : List Label) → NoItems ls → AreIdentified (map wanted ls)
labels-identified [] are = tt
labels-identified (l ∷ ls) are = (wanted-identifier l are.0, labels-identified ls are.1)

pub order-identifiers : (before : List (List ℕ)) (ls : List Label) (gs : List (List ℕ)) → AreTaken before (map wanted ls) gs → NoItems ls → AreIdentifiers gs
order-identifiers before ls gs h are = taken-identifiers before (map wanted ls) gs h (labels-identified ls are)

abbrev names_of : List Component → List (List ℕ)
names_of parts = map (λ (c : Component). c.identifier) parts

named-taken : (place : Subject → ℕ) (before : List (List ℕ)) (ps : Parts) (parts : List Component) (ts : Roses TypeLabel) → AreNamed place before ps parts ts
    → AreTaken before (map wanted (labels ps)) (names_of parts)
named-taken place before finish parts ts h = subst (λ cs. AreTaken before [] (names_of cs)) (sym h.0) tt
named-taken place before (part l optional p ps) parts ts h =
    subst (λ cs. AreTaken before (map wanted (labels (part l optional p ps))) (names_of cs)) (sym h.5) (h.4, named-taken place (before ++ h.0 ∷ []) ps h.1 h.3 h.8)

pub named-identifiers : (place : Subject → ℕ) (ps : Parts) (parts : List Component) (ts : Roses TypeLabel) → NoItems (labels ps) → AreNamed place [] ps parts ts → AreIdentifiers (names_of parts)
named-identifiers place ps parts ts are h = taken-identifiers [] (map wanted (labels ps)) (names_of parts) (named-taken place [] ps parts ts h) (labels-identified (labels ps) are)

-- ---- of the members of a union

abbrev alternatives : Spaces → List (List ℕ)
alternatives none = []
alternatives (more s ss) = codes "alt" ∷ alternatives ss

alternatives-identified : (ss : Spaces) → AreIdentified (alternatives ss)
alternatives-identified none = tt
alternatives-identified (more s ss) = (refl, alternatives-identified ss)

members-taken : (before : List (List ℕ)) (ss : Spaces) (parts : List Component) (ts : Roses TypeLabel) → AreMembers before ss parts ts → AreTaken before (alternatives ss) (names_of parts)
members-taken before none parts ts h = subst (λ cs. AreTaken before [] (names_of cs)) (sym h.0) tt
members-taken before (more s ss) parts ts h =
    subst (λ cs. AreTaken before (alternatives (more s ss)) (names_of cs)) (sym h.5) (h.4, members-taken (before ++ h.0 ∷ []) ss h.1 h.3 h.8)

pub members-identifiers : (ss : Spaces) (parts : List Component) (ts : Roses TypeLabel) → AreMembers [] ss parts ts → AreIdentifiers (names_of parts)
members-identifiers ss parts ts h = taken-identifiers [] (alternatives ss) (names_of parts) (members-taken [] ss parts ts h) (alternatives-identified ss)
