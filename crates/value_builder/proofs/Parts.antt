-- Parts of the innermost open SEQUENCE, one after another.
use Rattle.std.proofs.Common.{◌≡◌, List, [], ◌∷◌, ◌++◌, Bool, true, false, refl, sym, ◌∙◌, ap, append_assoc, append-nil}
use Rattle.base_trees.specs.Rose.{Rose, node, roses_of}
use Rattle.base_flat_trees.specs.Zips.{Above, Zip, opened, added, added_all, closed}
use Rattle.simple_types.specs.declared.labels.ValueLabel.{ValueLabel}
use Rattle.simple_types.specs.declared.labels.ValueLabel.TheVariants as value
use Rattle.value_builder.specs.Built.{flagged, flagged_label, flagged_above, with_flags, with_flags_above, with_parts}

zip-by : (a b : List (Above ValueLabel)) (ts us : List (Rose ValueLabel)) → a ≡ b → ts ≡ us
    → ◌≡◌ {A = Zip ValueLabel} (record { above = a; kids = ts }) (record { above = b; kids = us })
zip-by a b ts us p q = cc

above-by : (l m : ValueLabel) (before : List (Rose ValueLabel)) (up : List (Above ValueLabel)) → l ≡ m
    → ◌≡◌ {A = List (Above ValueLabel)} (record { label = l; before = before } ∷ up) (record { label = m; before = before } ∷ up)
above-by l m before up p = ap (λ x. record { label = x; before = before } ∷ up) p

flags-flagged : (present : Bool) (more : List Bool) (l : ValueLabel) → with_flags more (flagged_label present l) ≡ with_flags (present ∷ more) l
flags-flagged present more (value.Sequence flags) = ap value.Sequence (append_assoc flags (present ∷ []) more)
flags-flagged present more (value.Bool b) = refl
flags-flagged present more (value.Int n) = refl
flags-flagged present more (value.Enum i) = refl
flags-flagged present more (value.Utf8 t) = refl
flags-flagged present more (value.Choice i) = refl
flags-flagged present more value.SequenceOf = refl

above-flagged : (present : Bool) (more : List Bool) (up : List (Above ValueLabel)) → with_flags_above more (flagged_above present up) ≡ with_flags_above (present ∷ more) up
above-flagged present more [] = refl
above-flagged present more (a ∷ up) = above-by (with_flags more (flagged_label present a.label)) (with_flags (present ∷ more) a.label) a.before up (flags-flagged present more a.label)

-- an absent part, and a part with a value, before others
pub parts-absent : (flags : List Bool) (vs : List (Rose ValueLabel)) (z : Zip ValueLabel) → with_parts flags vs (flagged false z) ≡ with_parts (false ∷ flags) vs z
parts-absent flags vs z = zip-by (with_flags_above flags (flagged_above false z.above)) (with_flags_above (false ∷ flags) z.above) (z.kids ++ vs) (z.kids ++ vs) (above-flagged false flags z.above) refl

pub parts-present : (v : Rose ValueLabel) (flags : List Bool) (vs : List (Rose ValueLabel)) (z : Zip ValueLabel)
    → with_parts flags vs (added v (flagged true z)) ≡ with_parts (true ∷ flags) (v ∷ vs) z
parts-present v flags vs z =
    zip-by (with_flags_above flags (flagged_above true z.above)) (with_flags_above (true ∷ flags) z.above) ((z.kids ++ v ∷ []) ++ vs) (z.kids ++ v ∷ vs)
    (above-flagged true flags z.above) (append_assoc z.kids (v ∷ []) vs)

flags-none : (l : ValueLabel) → with_flags [] l ≡ l
flags-none (value.Sequence flags) = ap value.Sequence (append-nil flags)
flags-none (value.Bool b) = refl
flags-none (value.Int n) = refl
flags-none (value.Enum i) = refl
flags-none (value.Utf8 t) = refl
flags-none (value.Choice i) = refl
flags-none value.SequenceOf = refl

above-none : (up : List (Above ValueLabel)) → with_flags_above [] up ≡ up
above-none [] = refl
above-none (a ∷ up) = above-by (with_flags [] a.label) a.label a.before up (flags-none a.label)

-- no parts
pub parts-none : (z : Zip ValueLabel) → with_parts [] [] z ≡ z
parts-none z = zip-by (with_flags_above [] z.above) z.above (z.kids ++ []) z.kids (above-none z.above) (append-nil z.kids)

flags-more : (more gs : List Bool) (l : ValueLabel) → with_flags gs (with_flags more l) ≡ with_flags (more ++ gs) l
flags-more more gs (value.Sequence flags) = ap value.Sequence (append_assoc flags more gs)
flags-more more gs (value.Bool b) = refl
flags-more more gs (value.Int n) = refl
flags-more more gs (value.Enum i) = refl
flags-more more gs (value.Utf8 t) = refl
flags-more more gs (value.Choice i) = refl
flags-more more gs value.SequenceOf = refl

above-more : (fs gs : List Bool) (up : List (Above ValueLabel)) → with_flags_above gs (with_flags_above fs up) ≡ with_flags_above (fs ++ gs) up
above-more fs gs [] = refl
above-more fs gs (a ∷ up) = above-by (with_flags gs (with_flags fs a.label)) (with_flags (fs ++ gs) a.label) a.before up (flags-more fs gs a.label)

-- some parts and then others
pub parts-more : (fs gs : List Bool) (us vs : List (Rose ValueLabel)) (z : Zip ValueLabel) → with_parts gs vs (with_parts fs us z) ≡ with_parts (fs ++ gs) (us ++ vs) z
parts-more fs gs us vs z =
    zip-by (with_flags_above gs (with_flags_above fs z.above)) (with_flags_above (fs ++ gs) z.above) ((z.kids ++ us) ++ vs) (z.kids ++ (us ++ vs))
    (above-more fs gs z.above) (append_assoc z.kids us vs)

-- one part
pub part-absent : (z : Zip ValueLabel) → flagged false z ≡ with_parts (false ∷ []) [] z
part-absent z = sym (parts-none (flagged false z)) ∙ parts-absent [] [] z

pub part-present : (v : Rose ValueLabel) (z : Zip ValueLabel) → added v (flagged true z) ≡ with_parts (true ∷ []) (v ∷ []) z
part-present v z = sym (parts-none (added v (flagged true z))) ∙ parts-present v [] [] z

-- a SEQUENCE that gets its parts and is closed, and a SEQUENCE OF with its items
pub sequence-closed : (flags : List Bool) (vs : List (Rose ValueLabel)) (z : Zip ValueLabel)
    → closed (with_parts flags vs (opened (value.Sequence []) z)) ≡ added (node (value.Sequence flags) (roses_of vs)) z
sequence-closed flags vs z = refl

pub items-closed : (l : ValueLabel) (vs : List (Rose ValueLabel)) (z : Zip ValueLabel) → closed (added_all vs (opened l z)) ≡ added (node l (roses_of vs)) z
items-closed l vs z = refl

pub items-more : (vs : List (Rose ValueLabel)) (v : Rose ValueLabel) (z : Zip ValueLabel) → added v (added_all vs z) ≡ added_all (vs ++ v ∷ []) z
items-more vs v z = ap (λ ts. record { above = z.above; kids = ts }) (append_assoc z.kids vs (v ∷ []))
