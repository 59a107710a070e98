-- How a UTF8String and an INTEGER are spelled, and elements with their texts.
use Rattle.std.proofs.Common.{◌≡◌, List, ℕ, [], refl, sym, subst}
use Rattle.std.specs.Prelude.{Result, OnOk}
use Rattle.base_trees.specs.Rose.{Rose, node, none, more, label_of}
use Rattle.base_texts.specs.declared.texts.Name.{Name}
use Rattle.simple_types.specs.declared.labels.ValueLabel.{ValueLabel}
use Rattle.simple_types.specs.Reading.{spelled, spelled_whole, spelled_text}
use Rattle.asn_types.specs.declared.types.Form.{Form}
use Rattle.asn_types.specs.declared.types.Form.TheVariants as form
use Rattle.asn_types.specs.declared.types.TypeLabel.{TypeLabel}
use Rattle.asn_types.specs.Spaces.{space_at}
use Rattle.xml_items.specs.Mixing.{text_before}
use Rattle.xer_items.specs.Items.{given, element_of}
use Rattle.xer_write.specs.declared.contents.Contents.{Contents}
use Rattle.xer_write.specs.Private.Gaining.{Gains}

pub spelled-Int : (t : Rose TypeLabel) (v : Rose ValueLabel) (least greatest : _) → (label_of t).form ≡ form.Int least greatest → spelled (space_at t) v ≡ spelled_whole (label_of v)
unfolding spelled
spelled-Int (node l ts) v least greatest is = subst (λ (f : Form). spelled (space_at (node (record { form = f; marks = l.marks }) ts)) v ≡ spelled_whole (label_of v)) (sym is) refl

pub spelled-Utf8 : (t : Rose TypeLabel) (v : Rose ValueLabel) (least most class : _) → (label_of t).form ≡ form.Utf8 least most class → spelled (space_at t) v ≡ spelled_text (label_of v)
unfolding spelled
spelled-Utf8 (node l ts) v least most class is = subst (λ (f : Form). spelled (space_at (node (record { form = f; marks = l.marks }) ts)) v ≡ spelled_text (label_of v)) (sym is) refl

-- the same text
pub gains-text-as : {A E : Type 0} (r : Result A E) (old new : Contents) (name : Name) (text other : List ℕ) → text ≡ other → OnOk r (Gains old new (given [] (more (element_of name (given [] (text_before text none))) none)))
    → OnOk r (Gains old new (given [] (more (element_of name (given [] (text_before other none))) none)))
gains-text-as r old new name text other same gains = subst (λ (s : List ℕ). OnOk r (Gains old new (given [] (more (element_of name (given [] (text_before s none))) none)))) same gains
