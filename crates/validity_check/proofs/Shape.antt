-- What sound items are made of.
use Rattle.std.proofs.Common.{◌≡◌, ℕ, zero, suc, Some, Bool, true, false, refl, ◌∙◌, ap, subst}
use Rattle.std.specs.Prelude.{not, ◌&&◌}
use Rattle.base_trees.specs.Rose.{Rose, node, Roses, roses_of, label_of, kids_of}
use Rattle.base_trees.specs.Rose as rose
use Rattle.xml_items.specs.declared.label.ItemLabel.{ItemLabel}
use Rattle.xml_read.specs.Sound.{is_sound_label, is_text, begins_with_text, is_element, is_sound, are_sound}
use Rattle.schema_components.proofs.Truths.{both}
use Rattle.validity_rules.proofs.Reading.{kid_at, roses_of-list_of}

pub kid_sound : (ts : Roses ItemLabel) (i : ℕ) (t : Rose ItemLabel) → are_sound ts ≡ true → kid_at ts i ≡ Some t → is_sound t ≡ true
kid_sound rose.none i t h e = absurd (cc)
kid_sound (rose.more (node l ks) ts) zero t h e =
    let same : node l ks ≡ t = cc in
    subst (λ s. is_sound s ≡ true) same (both (is_sound (node l ks)) (not (is_text l && begins_with_text ts)) (both (is_sound (node l ks) && not (is_text l && begins_with_text ts)) (are_sound ts) h).0).0
kid_sound (rose.more (node l ks) ts) (suc i) t h e =
    kid_sound ts i t (both (is_sound (node l ks) && not (is_text l && begins_with_text ts)) (are_sound ts) h).1 e

pub kids_sound : (t : Rose ItemLabel) → is_sound t ≡ true → are_sound (roses_of (kids_of t)) ≡ true
kids_sound (node l ts) h = ap are_sound (roses_of-list_of ts) ∙ (both (is_sound_label l) (are_sound ts) h).1

not_true : (b : Bool) → not b ≡ true → b ≡ false
not_true true e = absurd (cc)
not_true false e = refl

pub element_label : (t : Rose ItemLabel) → is_element t ≡ true → is_text (label_of t) ≡ false
element_label (node l ts) h = not_true (is_text l) h
