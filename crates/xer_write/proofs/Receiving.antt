-- What is told to a receiver one after another is told at once.
use Rattle.std.proofs.Common.{◌≡◌, ◌<◌, ◌++◌, ◌∷◌, [], List, ℕ, length, refl, sym, ap, subst, ◌∙◌, append_assoc, arith}
use Rattle.std.proofs.lemmas.List.{append-nil}
use Rattle.base_texts.specs.declared.texts.Name.{Name}
use Rattle.base_trees.specs.Rose.{Rose, node, roses_of}
use Rattle.base_flat_trees.specs.Zips.{Above, Zip, added_all, closed}
use Rattle.xml_items.specs.declared.label.ItemLabel.{ItemLabel}
use Rattle.xml_items.specs.declared.label.ItemLabel.TheVariants.{Element}
use Rattle.xml_items.specs.Building.{listed, listed_in}
use Rattle.xml_write.specs.Telling.{words_in}
use Rattle.xml_write.proofs.Telling as told
use Rattle.std.specs.Prelude.{codes}
use Rattle.std.specs.Global.{Vec}
use Rattle.base_texts.specs.Namespaces.{xsi_space}
use Rattle.xer_items.specs.Items.{nil_name}
use Rattle.xer_write.specs.declared.receiver.Built.{Built}
use Rattle.xer_write.specs.declared.receiver.Receiver.{Receiver}
use Rattle.xer_write.specs.declared.receiver.Receiver.TheVariants.{Items, Text}
use Rattle.xer_write.specs.declared.receiver.Open.{Open}
use Rattle.xer_write.specs.declared.receiver.Open.TheVariants as tag
use Rattle.xer_write.specs.Private.Receiving.{Tells, Opens, IsOpen, Closes}
use Rattle.xer_write.specs.Private.Gaining.{TakesElement, text_item}

nothing_more : (z : Zip ItemLabel) → z ≡ added_all [] z
nothing_more z = ap (λ ks. record { above = z.above; kids = ks }) (sym (append-nil z.kids))

pub tells-none : (r : Receiver) → Tells r r [] []
tells-none (Items built) = (sym (append-nil built.attributes.items), nothing_more built.builder.zip)
tells-none (Text text) = told.tells-nothing text

pub tells-both : (a b c : Receiver) (xs ys : List (Name × List ℕ)) (items others : List (Rose ItemLabel)) → Tells a b xs items → Tells b c ys others → Tells a c (xs ++ ys) (items ++ others)
tells-both (Items a) (Items b) (Items c) xs ys items others one other = (
  other.0 ∙ ap (λ s. s ++ ys) one.0 ∙ append_assoc a.attributes.items xs ys,
  other.1 ∙ ap (added_all others) one.1 ∙ ap (λ s. record { above = a.builder.zip.above; kids = s }) (append_assoc a.builder.zip.kids items others),
)
tells-both (Items a) (Items b) (Text c) xs ys items others one other = absurd other
tells-both (Items a) (Text b) c xs ys items others one other = absurd one
tells-both (Text a) (Items b) c xs ys items others one other = absurd one
tells-both (Text a) (Text b) (Items c) xs ys items others one other = absurd other
tells-both (Text a) (Text b) (Text c) xs ys items others one other = told.tells-both a b c xs ys items others one other

pub tells-element : (a b c d : Receiver) (name : Name) (t : Open) (xs : List (Name × List ℕ)) (items : List (Rose ItemLabel)) → Opens a b name t → Tells b c xs items → Closes t c d → TakesElement a d name xs items
tells-element (Items a) (Items b) (Items c) (Items d) name (tag.Items o) xs items opens tells closes = (
  closes.0 ∙ opens.outer_attributes ∙ sym (append-nil a.attributes.items),
  closes.1 ∙ ap (λ z. closed (listed c.attributes.items [] z)) (tells.1 ∙ ap (added_all items) opens.builder)
      ∙ ap (λ s. added_all (node (Element name s [] 0) (roses_of items) ∷ []) a.builder.zip) (tells.0 ∙ ap (λ s. s ++ xs) opens.attributes),
)
tells-element (Items a) (Items b) (Items c) (Text d) name (tag.Items o) xs items opens tells closes = absurd closes
tells-element (Items a) (Items b) (Text c) d name (tag.Items o) xs items opens tells closes = absurd tells
tells-element (Items a) (Items b) c d name (tag.Text t) xs items opens tells closes = absurd opens
tells-element (Items a) (Text b) c d name t xs items opens tells closes = absurd opens
tells-element (Text a) (Items b) c d name t xs items opens tells closes = absurd opens
tells-element (Text a) (Text b) c d name (tag.Items o) xs items opens tells closes = absurd opens
tells-element (Text a) (Text b) (Items c) d name (tag.Text t) xs items opens tells closes = absurd tells
tells-element (Text a) (Text b) (Text c) (Items d) name (tag.Text t) xs items opens tells closes = absurd closes
tells-element (Text a) (Text b) (Text c) (Text d) name (tag.Text t) xs items opens tells closes = told.tells-element a b c d name t xs items opens tells closes

pub still-open : (a b c : Receiver) (name : Name) (t : Open) (xs : List (Name × List ℕ)) (items : List (Rose ItemLabel)) → Opens a b name t → Tells b c xs items → IsOpen c t
still-open (Items a) (Items b) (Items c) name (tag.Items o) xs items opens tells =
    subst (λ (z : Zip ItemLabel). 0 < length z.above) (sym (tells.1 ∙ ap (added_all items) opens.builder)) (omega arith)
still-open (Items a) (Items b) (Text c) name (tag.Items o) xs items opens tells = absurd tells
still-open (Items a) (Items b) c name (tag.Text t) xs items opens tells = absurd opens
still-open (Items a) (Text b) c name t xs items opens tells = absurd opens
still-open (Text a) (Items b) c name t xs items opens tells = absurd opens
still-open (Text a) (Text b) c name (tag.Items o) xs items opens tells = absurd opens
still-open (Text a) (Text b) (Items c) name (tag.Text t) xs items opens tells = absurd tells
still-open (Text a) (Text b) (Text c) name (tag.Text t) xs items opens tells = tt

pub still_open : (xs : List (Name × List ℕ)) (ys : List (List ℕ × List ℕ)) (up : List (Above ItemLabel)) → 0 < length up → 0 < length (listed_in xs ys up)
still_open xs ys [] some = some
still_open xs ys (a ∷ up) some = some

pub nil-told : (old : Receiver) (built : Built) (pushed : Vec (Name × List ℕ)) (space local words : List ℕ) → old ≡ Items built → pushed.items ≡ built.attributes.items ++ (record { space = space; local = local }, words) ∷ []
    → space ≡ xsi_space → local ≡ codes "nil" → words ≡ codes "true" → Tells old (Items (record { builder = built.builder; attributes = pushed })) ((nil_name, codes "true") ∷ []) []
nil-told old built pushed space local words is ep es el ew =
    let attribute : (record { space = space; local = local }, words) ≡ (nil_name, codes "true") =
    ap (λ s. (record { space = s; local = local }, words)) es ∙ ap (λ s. (record { space = xsi_space; local = s }, words)) el ∙ ap (λ s. (nil_name, s)) ew in
    subst (λ r. Tells r (Items (record { builder = built.builder; attributes = pushed })) ((nil_name, codes "true") ∷ []) []) (sym is)
    (ep ∙ ap (λ x. built.attributes.items ++ x ∷ []) attribute, nothing_more built.builder.zip)

-- ---- an element in which a text stands alone

words-are : (words : List ℕ) → words_in words ≡ roses_of (text_item words)
words-are [] = refl
words-are (byte ∷ bytes) = refl

pub takes-words : (old new : Receiver) (called name : Name) (told_words words : List ℕ) → called ≡ name → told_words ≡ words
    → Tells old new [] (node (Element called [] [] 0) (words_in told_words) ∷ []) → TakesElement old new name [] (text_item words)
takes-words old new called name told_words words ec ew tells =
    subst (λ (n : Name). Tells old new [] (node (Element n [] [] 0) (roses_of (text_item words)) ∷ [])) ec
    (subst (λ kids. Tells old new [] (node (Element called [] [] 0) kids ∷ [])) (ap words_in ew ∙ words-are words) tells)
