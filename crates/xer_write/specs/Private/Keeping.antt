-- Child elements that are added later, as the code keeps them.
use Rattle.std.specs.Prelude.{◌≡◌, ℕ, ◌≤◌, false, List, [], map, Some, slice_get}
use Rattle.std.specs.List.{AllByRecursion}
use Rattle.base_trees.specs.Rose.{Rose, none, label_of, kids_of, node_count}
use Rattle.xml_items.specs.Mixing.{child_elements}
use Rattle.asn_types.specs.declared.modules.Assignment.{Assignment}
use Rattle.asn_types.specs.declared.roles.Role.TheVariants.{Group, Content}
use Rattle.asn_types.specs.declared.types.Component.{Component}
use Rattle.asn_types.specs.declared.types.TypeLabel.{TypeLabel}
use Rattle.asn_types.specs.Marks.{has_embed_values, has_use_nil, has_use_order}
use Rattle.asn_types.specs.Modules.{IsSequence, group_parts}
use Rattle.asn_types.specs.Parts.{parts_of}
use Rattle.asn_types.specs.Refs.{resolve}
use Rattle.asn_values.specs.Values.{ComponentPlace, place_of}
use Rattle.xer_items.specs.Items.{Given, given, joined}
use Rattle.xer_items.specs.Children.{Child, elements_of}
use Rattle.xer_write.specs.declared.contents.Contents.{Contents}
use Rattle.xer_write.specs.declared.keeping.ChildElement.{ChildElement}
use Rattle.xer_write.specs.Private.Receiving.{name_seen}
use Rattle.xer_write.specs.Private.Gaining.{Gains}
use Rattle.xer_write.specs.Private.Giving.{IsTypeIn}

abbrev pub child_seen : ChildElement → Child
child_seen c = record { name = name_seen c.name; type = c.node.now; value = c.value }

abbrev pub children_seen : List ChildElement → List Child
children_seen cs = map child_seen cs

-- Their types are types of the module, and no value has more nodes than this.
abbrev pub AreWithin : List Assignment → ℕ → List Child → Type 0
AreWithin M most cs = AllByRecursion (λ (c : Child). IsTypeIn M c.type × (node_count c.value ≤ most)) cs

-- The attributes that a value gives are added, and its child elements are kept after those before.
pub record Keeps (M : List Assignment) (nodes : ℕ) (old new : Contents) (before after : List Child) (g : Given) : Type 0 where
  pub gains : Gains old new (given g.attributes none)
  pub children : elements_of M after ≡ joined (elements_of M before) (child_elements g.kids)
  pub within : (most : ℕ) → nodes ≤ most → AreWithin M most before → AreWithin M most after

-- The type is a SEQUENCE whose parts give attributes and child elements.
pub record IsPlain (t : Rose TypeLabel) : Type 0 where
  pub sequence : IsSequence (label_of t).form
  pub groups : group_parts (label_of t) ≡ []
  pub content : has_use_nil (label_of t).marks ≡ false
  pub texts : has_embed_values (label_of t).marks ≡ false
  pub order : has_use_order (label_of t).marks ≡ false

-- The place gives an attribute, a child element, the attributes and child elements of a content, or nothing.
pub record GivesPlainly (M : List Assignment) (p : ComponentPlace) : Type 0 where
  pub group : p.role ≡ Group → ⊥
  pub content : p.role ≡ Content → IsPlain (resolve M p.type)

abbrev pub PartsArePlain : List Assignment → Rose TypeLabel → Type 0
PartsArePlain M t =
    (i : ℕ) (part : Component) (u : Rose TypeLabel) → slice_get (parts_of (label_of t).form) i ≡ Some part → slice_get (kids_of t) i ≡ Some u
    → GivesPlainly M (place_of (label_of t) i part u)
