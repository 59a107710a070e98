-- Where the spaces of the definitions are sound, that of each simple type of a set is.
use Rattle.std.proofs.Common.{◌≡◌, Bool, true, false, List, [], ◌∷◌, map, All, refl, ap, arith}
use Rattle.std.specs.Prelude.{if◌then◌else◌}
use Rattle.std.proofs.lemmas.List.Elements.{All-nil, All-cons, All-head, All-tail, All-same, All-append, All-map}
use Rattle.simple_types.specs.declared.simples.Builtin.{Builtin}
use Rattle.simple_types.specs.declared.simples.Builtin.TheVariants.{Boolean, Byte, Short, Int, Long, UnsignedByte, UnsignedShort, UnsignedInt, UnsignedLong, Integer, NonNegativeInteger, PositiveInteger, NonPositiveInteger, NegativeInteger, String, NormalizedString, Token, AnyUri, Language, NmToken, Name, NcName, NmTokens}
use Rattle.simple_types.specs.declared.simples.Simple.{Simple}
use Rattle.simple_types.specs.Builtins.{builtin_space}
use Rattle.simple_types.specs.Seen.{space_of}
use Rattle.simple_types.specs.Sound.{Sound}
use Rattle.simple_types.specs.Space.{Space}
use Rattle.schema_components.specs.declared.components.SimpleDef.{SimpleDef}
use Rattle.schema_components.specs.Raw.{Document}
use Rattle.link_names.specs.SimpleTypes.{SimpleDefinition, simple_types}
use Rattle.link_set.specs.Builtins.{used_builtins}
use Rattle.link_set.specs.Ordered.{inserted, in_order}
use Rattle.link_set.specs.Sets.{NamedSpace, named_space, named_spaces, MadeType, made_type, made_types, made_before, space_of_made, space_of_builtin, simples, set_of}
use Rattle.link_set.specs.Parts.{parts_made}
use Rattle.link_set.specs.Written.{lists_of}
use Rattle.link_set.specs.declared.parts.SetParts.{SetParts}

abbrev IsSound : NamedSpace → Type 0
IsSound t = Sound t.space

abbrev IsMadeSound : MadeType → Type 0
IsMadeSound t = Sound t.space

builtin_sound : (which : Builtin) → Sound (builtin_space which)
builtin_sound Boolean = search (arith)
builtin_sound Byte = search (arith)
builtin_sound Short = search (arith)
builtin_sound Int = search (arith)
builtin_sound Long = search (arith)
builtin_sound UnsignedByte = search (arith)
builtin_sound UnsignedShort = search (arith)
builtin_sound UnsignedInt = search (arith)
builtin_sound UnsignedLong = search (arith)
builtin_sound Integer = tt
builtin_sound NonNegativeInteger = tt
builtin_sound PositiveInteger = tt
builtin_sound NonPositiveInteger = tt
builtin_sound NegativeInteger = tt
builtin_sound String = tt
builtin_sound NormalizedString = tt
builtin_sound Token = tt
builtin_sound AnyUri = tt
builtin_sound Language = tt
builtin_sound NmToken = tt
builtin_sound Name = tt
builtin_sound NcName = tt
builtin_sound NmTokens = (tt, refl, tt)

builtins_sound : (used : List Builtin) → All (λ which. IsSound (space_of_builtin which)) used
builtins_sound [] = All-nil (λ which. IsSound (space_of_builtin which))
builtins_sound (which ∷ used) =
    All-cons (λ w. IsSound (space_of_builtin w)) which used (builtin_sound which) (builtins_sound used)

made_sound : (ds : List SimpleDefinition) (ss : List Space) → All Sound ss → All IsMadeSound (made_types ds ss)
made_sound [] ss h = All-nil IsMadeSound
made_sound (d ∷ ds) [] h = All-nil IsMadeSound
made_sound (d ∷ ds) (s ∷ ss) h =
    All-cons IsMadeSound (made_type d s) (made_types ds ss) (All-head Sound s ss h) (made_sound ds ss (All-tail Sound s ss h))

inserted_sound : (t : MadeType) (ts : List MadeType) → IsMadeSound t → All IsMadeSound ts → All IsMadeSound (inserted made_before t ts)
inserted_sound t [] one h = All-cons IsMadeSound t [] one h
inserted_sound t (u ∷ us) one h = step (inserted_sound t us one (All-tail IsMadeSound u us h)) (made_before u t)
  where
    step : All IsMadeSound (inserted made_before t us) → (b : Bool) → All IsMadeSound (if b then u ∷ inserted made_before t us else t ∷ u ∷ us)
    step behind true = All-cons IsMadeSound u (inserted made_before t us) (All-head IsMadeSound u us h) behind
    step behind false = All-cons IsMadeSound t (u ∷ us) one h

in_order_sound : (ts : List MadeType) → All IsMadeSound ts → All IsMadeSound (in_order made_before ts)
in_order_sound [] h = h
in_order_sound (t ∷ ts) h =
    inserted_sound t (in_order made_before ts) (All-head IsMadeSound t ts h) (in_order_sound ts (All-tail IsMadeSound t ts h))

each_sound : (ts : List SimpleDef) → All IsSound (named_spaces ts) → All (λ (t : SimpleDef). Sound (space_of t.space)) ts
each_sound [] h = All-nil (λ (t : SimpleDef). Sound (space_of t.space))
each_sound (t ∷ ts) h =
    All-cons (λ (u : SimpleDef). Sound (space_of u.space)) t ts (All-head IsSound (named_space t) (named_spaces ts) h)
    (each_sound ts (All-tail IsSound (named_space t) (named_spaces ts) h))

pub sound_simples : (ts : List SimpleDef) (ds : List SimpleDefinition) (ss : List Simple) (used : List Builtin)
    → named_spaces ts ≡ simples ds (map space_of ss) used → All (λ s. Sound (space_of s)) ss → All (λ (t : SimpleDef). Sound (space_of t.space)) ts
sound_simples ts ds ss used same h =
    let spaces = map space_of ss in
    let made = in_order made_before (made_types ds spaces) in
    let own = All-map IsSound space_of_made made (in_order_sound (made_types ds spaces) (made_sound ds spaces (All-map Sound space_of ss h))) in
    let built_in = All-map IsSound space_of_builtin used (builtins_sound used) in
    each_sound ts
    (All-same IsSound (named_spaces ts) (simples ds spaces used) same
    (All-append IsSound (map space_of_made made) (map space_of_builtin used) own built_in))

-- of the parts of a whole set
pub sound_parts : (p : SetParts) (docs : List Document) (ss : List Simple)
    → parts_made p ≡ set_of docs (map space_of ss) → All (λ s. Sound (space_of s)) ss → All (λ (t : SimpleDef). Sound (space_of t.space)) p.simples.items
sound_parts p docs ss same h =
    sound_simples p.simples.items (simple_types docs) ss (used_builtins (lists_of docs)) (ap (λ q. q.simples) same) h
