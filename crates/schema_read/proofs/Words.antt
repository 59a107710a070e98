-- The words that most lemmas here speak of, passed on from one place. Declares nothing.
pub use Rattle.content_models.specs.Kids.{KindMayHave, MayHave}
pub use Rattle.content_models.specs.declared.particles.ParticleKind.{ParticleKind}
pub use Rattle.content_models.specs.declared.particles.ParticleLabel.{ParticleLabel}
pub use Rattle.xml_read.specs.Sound.{are_sound, are_sound_attributes, begins_with_text, has_name, is_element, is_sound, is_sound_attribute, is_sound_binding, is_sound_label, is_sound_name, is_text, levels, levels_all}
pub use Rattle.xml_read.specs.Tokens.{Ascend, Closes, Token, tokens, tokens_all}
pub use Rattle.xml_items.specs.Labels.{item_place}
pub use Rattle.xml_items.specs.declared.label.ItemLabel.{ItemLabel}
pub use Rattle.xml_items.specs.declared.label.ItemLabel.TheVariants.{Element, Text}
pub use Rattle.base_trees.proofs.Kids.{kid-count-le, roses_of-drop}
pub use Rattle.base_trees.proofs.Roses.{node_count-kids, roses_of-list_of}
pub use Rattle.base_trees.specs.Rose.{Allowed, AllowedAll, count_all, depth_all, height, kids_of, label_of, length_all, list_of, node, node_count, Rose, Roses, roses_of}
pub use Rattle.schema_faults.specs.Faults.{first_fault, is_schema, LookedAt, outside, own_reason, placed_at, position_behind, reasons, reasons_among, reasons_at, reasons_of, unless_composition}
pub use Rattle.schema_faults.specs.Limits.{has_large, is_over_limit, level_inside}
pub use Rattle.schema_faults.specs.Reasons.{early_tests, is_empty_choice, is_true, late_tests, left_out_attributes, left_out_reference, occurs, reason_against, untyped}
pub use Rattle.schema_faults.specs.Requirements.{has_both_forms, lacks_required, names_members}
pub use Rattle.schema_faults.specs.Shown.{IsSchema, NoneAtAll}
pub use Rattle.schema_components.proofs.Seen.{inner_base, named_base, union}
pub use Rattle.schema_components.specs.Bounds.{all_allow_one, all_fit, allow_one, ascend, content_fits, each_allows_one, elements_fit, fits, follow, kind_fits, local_fits, locals_fit, type_fits, types_fit}
pub use Rattle.schema_components.specs.Coherent.{AllStand, EachStands, IsCoherent, IsFrom, leaves_of_models, model_in_content, model_in_kind, model_in_local, model_in_type, models_in_elements, models_in_locals, models_in_types, ModelsStand, name_of, Nested, numbered}
pub use Rattle.schema_components.specs.Declarable.{is_declarable, is_declarable_attribute, kept_spaces}
pub use Rattle.schema_components.specs.Linked.{all_leaves, leaves_of_model}
pub use Rattle.schema_components.specs.Places.{all_ascend, attribute_place, element_place, local_place, places_among, places_in, places_in_attribute, places_in_base, places_in_bases, places_in_content, places_in_definition, places_in_element, places_in_how, places_in_kind, places_in_local, places_in_mixed, places_in_model, places_in_use, StandAmong, type_place}
pub use Rattle.schema_components.specs.Raw.{Attribute, Base, Bases, Complex, ComplexKind, ComplexType, Document, How, Inner, Kind, ListOf, Local, more, Named, NamedKind, none, Own, Reference, Restrict, Simple, SimpleKind, SimpleType, TypeDefinition, UnionOf, Use}
pub use Rattle.schema_components.specs.Seen.{attribute_of, base_of, bases_in, element_of, how_of, local_of, simple_of, type_of, uses_in}
pub use Rattle.schema_components.specs.declared.declarations.RawContent.{RawContent}
pub use Rattle.schema_components.specs.declared.declarations.RawLocal.{RawLocal}
pub use Rattle.schema_components.specs.declared.simple_definitions.RawRef.{RawRef}
pub use Rattle.schema_components.specs.declared.simple_definitions.RawRef.TheVariants.{Other}
pub use Rattle.schema_read.specs.Attributes.{and_use, attribute_by, global_attribute, has_use, is_qualified, local_name, own_use, use_at, use_by, use_to, uses_among}
pub use Rattle.schema_read.specs.Contents.{complex_by, complex_with, content_by, content_of, content_of_nothing, empty_place, extended, extended_among, extension_base, group_place, is_named, is_nothing, model_of, nothing, simple_content, simple_content_at, takes_each}
pub use Rattle.schema_read.specs.Counted.{counted_among, counted_at, counted_here, counted_inside}
pub use Rattle.schema_read.specs.Keeping.{Keeps}
pub use Rattle.schema_read.specs.Names.{declared_name, no_name, referred, type_ref, value_or_empty}
pub use Rattle.schema_read.specs.Particles.{and_particle, and_some, complex_of, complex_type, compositor, declared, declared_with, element_by, element_name, element_with, first_group, first_kind, group_among, group_of, inner_kind, kind_by, leaf_of, Made, made, made_some, Makes, particle_at, particle_by, particles_among, reference_to}
pub use Rattle.schema_read.specs.Private.Held.{BodyHeld, ContentHeld, ElementHeld, ElementsHeld, FoundHeld, HasRoom, IsHeld, KindHeld, LocalHeld, LocalsHeld, Numbered, PartsHeld, TypeHeld, TypesHeld}
pub use Rattle.schema_read.specs.Raw.{Adds, Are, attribute_parts, complex_type_parts, complex_types, document_with, element_parts, global_element, no_parts, Parts, parts_among, parts_by, parts_named, raw_of, simple_type_parts}
pub use Rattle.schema_read.specs.Settings.{said, Settings, settings_of}
pub use Rattle.schema_read.specs.SimpleTypes.{and_facet, and_inner, base_by, declared_type, defined, facet_at, facet_makers, facet_of, facets_among, first_or_none, inner_types, joined, made_by, named_in, named_members, placed, simple_type, variety_among, variety_at, with_value}
pub use Rattle.schema_components.specs.declared.documents.RawComponents.{RawComponents as Globals}
pub use Rattle.schema_syntax.specs.Attributes.{has, has_unknown, in_use, kept_as_written, own_attributes}
pub use Rattle.schema_syntax.specs.Children.{child_count, has_child, is_in, names_in}
pub use Rattle.schema_syntax.specs.Elements.{children, counted_names, element_names, is_counted, is_looked_into, is_schema_name, left_out, may_stand, part, placement_of, refused_or, skipped_names}
pub use Rattle.schema_syntax.specs.Scopes.{bindings_in}
pub use Rattle.schema_syntax.specs.Values.{declares_xmlns, digits_of, has_bad_value, has_malformed, is_crossed, is_declared_name, is_no_all, is_target, is_well_formed, least_of, most_of, never_occurs}
pub use Rattle.schema_syntax.specs.declared.children.ChildSet.TheVariants.{Attributes, Enumerations, Particles, SimpleTypes, TakenParticles, Varieties}
pub use Rattle.schema_syntax.specs.declared.roles.ElementRole.{ElementRole}
pub use Rattle.schema_syntax.specs.declared.roles.ElementRole.TheVariants.{All, AllElement, Choice, Extension, GlobalAttribute, GlobalComplexType, GlobalElement, GlobalSimpleType, InnerComplexType, InnerSimpleType, List as ListRole, LocalAttribute, LocalElement, Restriction, Schema, Sequence, SimpleContent, Union}
pub use Rattle.schema_syntax.specs.declared.roles.Part.{Part}
pub use Rattle.schema_syntax.specs.declared.roles.Position.{Position}
pub use Rattle.schema_syntax.specs.declared.roles.Position.TheVariants.{Alone, Anywhere, First}
pub use Rattle.std.proofs.Math.Seq.{drop-append_seam, get_or-append_seam, set-append_seam, take-append_seam}
pub use Rattle.std.proofs.Math.Utf8.{encode}
pub use Rattle.std.proofs.lemmas.Bool.{and_cases, and_from, and_left, and_parts, and_right, both_ways, cases_Bool, cond-false, cond-true, cond_both, eq-eqb, eqb-false, eqb-true, le-leb, leb-false, leb-true, lt-ltb, ltb-false, not-false, not-true, not_from_false, or_cases, or_from, or_parts}
pub use Rattle.std.proofs.lemmas.List.{append-nil, drop_all, drop_more, length-append, length-map, map-append}
pub use Rattle.std.proofs.lemmas.List.Sums.{sum_by-append, sum_by-cons}
pub use Rattle.std.proofs.lemmas.Slice.Eq.{bytes_eq-Decides}
pub use Rattle.std.specs.List.{flat_map, join_with_byte, list_all, list_any, onto_first, slice_split}
pub use Rattle.std.specs.Option.{is_some, option_map, option_or}
pub use Rattle.std.specs.Str.{chars, is_utf8, IsCharBoundary}
pub use Rattle.base_texts.specs.Characters.{is_ncname, is_xml_char}
pub use Rattle.base_texts.specs.Entries.{beside, first_true}
pub use Rattle.base_texts.specs.Limits.{has_xml_chars, is_empty, is_name_part, is_namespace, is_short_part, is_short_space, is_xmlns, spells_ncname}
pub use Rattle.base_texts.specs.Namespaces.{schema_space, xmlns_prefix, xmlns_space, xsi_space}
pub use Rattle.base_texts.specs.WhiteSpace.{has_bytes, is_white_space, treated, words_of}
pub use Rattle.base_texts.specs.declared.texts.Name.{Name}
pub use Rattle.base_texts.specs.declared.white_space.WhiteSpace.TheVariants.{Collapse}
