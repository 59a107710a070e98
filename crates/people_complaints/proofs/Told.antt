-- The text of a complaint.
use Rattle.std.proofs.Common.{◌≡◌, ◌⊎◌, inl, inr, ℕ, ◌≤◌, List, [], ◌∷◌, ◌++◌, length, codes, decimal, refl, sym, ap, ◌∙◌, arith, append_assoc, append-nil, Option, Result, Ok, Err}
use Rattle.std.specs.Result.{IsErr, OnOk, OnErr}
use Rattle.std.specs.Io.KnownBytes.{Appends}
use Rattle.std.proofs.lemmas.List.{length-append}
use Rattle.base_texts.specs.Faults.{Counts, HasRisen}
use Rattle.base_texts.specs.Bytes.{AppendsFront}
use Rattle.transcode_words.specs.declared.outcome.Outcome.{Outcome}
use Rattle.transcode_words.specs.declared.outcome.Outcome.TheVariants.{Done, Usage, SchemaSyntax, SchemaFault, LinkFault, UnknownRoot, Stamp, DocSyntax, Invalid, PerFault, RecordFault, DerFault, ModuleFault, Trailing, TooLong, TooManyNodes, LoadFault, ReadFault, WriteFault, OutOfMemory}
use Rattle.transcode_words.specs.Lines.{line, place, reason_name, schema_reason, link_reason, invalid_reason, per_reason, der_reason, module_reason}
use Rattle.people_complaints.specs.Complaints.{IsNamed, IsPlaceOf, IsWithin, MayList, explained, IsComplaint, IsComplaintOf, IsText, Complains}
use Rattle.people_complaints.specs.Subjects.{Texts, about}

-- ---- composing

no_list : (o : Outcome) → MayList o []
no_list (SchemaSyntax k at why) = refl
no_list (SchemaFault k at why) = refl
no_list (LinkFault k at why) = refl
no_list (DocSyntax at why) = refl
no_list (Invalid at why) = refl
no_list (PerFault bit why) = refl
no_list (RecordFault number bit why) = refl
no_list (DerFault at why) = refl
no_list (ModuleFault at why) = refl
no_list (Trailing at) = refl
no_list (TooLong k) = refl
no_list (TooManyNodes count) = refl
no_list (LoadFault k) = refl
no_list Done = refl
no_list Usage = refl
no_list UnknownRoot = tt
no_list Stamp = refl
no_list ReadFault = refl
no_list WriteFault = refl
no_list OutOfMemory = refl

pub composed : (o : Outcome) (name contents place excerpt reason within means remedy text : List ℕ) → IsPlaceOf o contents place excerpt → IsNamed o reason → IsWithin o contents within
    → text ≡ name ++ place ++ explained reason within means excerpt remedy → IsComplaint o name contents text
composed o name contents place excerpt reason within means remedy text placed named element is = record {
  place = place;
  reason = reason;
  within = within;
  means = means;
  excerpt = excerpt;
  remedy = remedy;
  more = [];
  placed = placed;
  named = named;
  element = element;
  list = no_list o;
  text = is ∙ sym (append-nil (name ++ place ++ explained reason within means excerpt remedy));
}

-- lines that follow the complaint about a root
pub listed : (name contents text lines whole : List ℕ) → IsComplaint UnknownRoot name contents text → whole ≡ text ++ lines → IsComplaint UnknownRoot name contents whole
listed name contents text lines whole c is = record {
  place = c.place;
  reason = c.reason;
  within = c.within;
  means = c.means;
  excerpt = c.excerpt;
  remedy = c.remedy;
  more = c.more ++ lines;
  placed = c.placed;
  named = c.named;
  element = c.element;
  list = tt;
  text = is ∙ ap (λ l. l ++ lines) c.text ∙ append_assoc (name ++ c.place ++ explained c.reason c.within c.means c.excerpt c.remedy) c.more lines;
}

-- ---- texts that aren't empty

ends : (xs ys : List ℕ) → 1 ≤ length ys → xs ++ ys ≡ [] → ⊥
ends xs ys some e = omega (arith, length-append xs ys, ap length e)

nil_left : (xs ys : List ℕ) → xs ++ ys ≡ [] → xs ≡ []
nil_left [] ys e = refl
nil_left (x ∷ xs) ys e = absurd cc

nil_right : (xs ys : List ℕ) → xs ++ ys ≡ [] → ys ≡ []
nil_right [] ys e = e
nil_right (x ∷ xs) ys e = absurd cc

some_complaint : (o : Outcome) (name contents text : List ℕ) → IsComplaint o name contents text → text ≡ [] → ⊥
some_complaint o name contents text c e =
    let two = nil_left (name ++ c.place ++ explained c.reason c.within c.means c.excerpt c.remedy) c.more (sym c.text ∙ e) in
    ends ((codes ": " ++ c.reason ++ codes ": ") ++ (c.within ++ c.means ++ codes "\n") ++ (c.excerpt ++ codes "help: " ++ c.remedy)) (codes "\n") (omega arith)
    (nil_right (name ++ c.place) (explained c.reason c.within c.means c.excerpt c.remedy) two)

some_line : (o : Outcome) → (o ≡ Done → ⊥) → line o ≡ [] → ⊥
some_line (SchemaSyntax k at why) other e = ends (codes "file " ++ decimal k ++ codes ", byte " ++ decimal at ++ codes ": syntax: " ++ reason_name why) (codes "\n") (omega arith) e
some_line (SchemaFault k at why) other e = ends (codes "file " ++ decimal k ++ codes ", byte " ++ decimal at ++ codes ": schema: " ++ schema_reason why) (codes "\n") (omega arith) e
some_line (LinkFault k at why) other e = ends (codes "file " ++ decimal k ++ codes ", byte " ++ decimal at ++ codes ": link: " ++ link_reason why) (codes "\n") (omega arith) e
some_line (DocSyntax at why) other e = ends (codes "input, byte " ++ decimal at ++ codes ": syntax: " ++ reason_name why) (codes "\n") (omega arith) e
some_line (Invalid at why) other e = ends (codes "input, byte " ++ decimal at ++ codes ": invalid: " ++ invalid_reason why) (codes "\n") (omega arith) e
some_line (PerFault bit why) other e = ends (codes "input, bit " ++ decimal bit ++ codes ": per: " ++ per_reason why) (codes "\n") (omega arith) e
some_line (RecordFault number bit why) other e = ends (codes "record " ++ decimal number ++ codes ", bit " ++ decimal bit ++ codes ": per: " ++ per_reason why) (codes "\n") (omega arith) e
some_line (DerFault at why) other e = ends (codes "input, byte " ++ decimal at ++ codes ": der: " ++ der_reason why) (codes "\n") (omega arith) e
some_line (ModuleFault at why) other e = ends (codes "file 1, byte " ++ decimal at ++ codes ": module: " ++ module_reason why) (codes "\n") (omega arith) e
some_line (Trailing at) other e = ends (codes "input, byte " ++ decimal at) (codes ": trailing\n") (omega arith) e
some_line (TooLong k) other e = ends (place k) (codes ": too long\n") (omega arith) e
some_line (TooManyNodes count) other e = ends (codes "value of " ++ decimal count) (codes " nodes: too many\n") (omega arith) e
some_line (LoadFault k) other e = ends (codes "file " ++ decimal k) (codes ": load failed\n") (omega arith) e
some_line Done other e = other refl
some_line Usage other e = omega (arith, ap length e)
some_line UnknownRoot other e = omega (arith, ap length e)
some_line Stamp other e = omega (arith, ap length e)
some_line ReadFault other e = omega (arith, ap length e)
some_line WriteFault other e = omega (arith, ap length e)
some_line OutOfMemory other e = omega (arith, ap length e)

-- ---- what standard error receives

pub written : {A E : Type 0} (v : Result A E) (old new : Option (List ℕ)) (text : List ℕ) (faults faults_now : ℕ) → OnOk v (Appends old new text) → OnErr v (AppendsFront old new text)
    → Counts faults faults_now (IsErr v) → Appends old new text ⊎ (HasRisen faults faults_now × AppendsFront old new text)
written (Ok a) old new text faults faults_now ok prefix counts = inl ok
written (Err e) old new text faults faults_now ok prefix counts = inr (counts.rose refl, prefix)

is_text : (texts : Texts) (o : Outcome) (text : List ℕ) → IsComplaintOf texts o text ⊎ (text ≡ line o) → IsText texts o text
is_text texts (SchemaSyntax k at why) text is = is
is_text texts (SchemaFault k at why) text is = is
is_text texts (LinkFault k at why) text is = is
is_text texts (DocSyntax at why) text is = is
is_text texts (Invalid at why) text is = is
is_text texts (PerFault bit why) text is = is
is_text texts (RecordFault number bit why) text is = is
is_text texts (DerFault at why) text is = is
is_text texts (ModuleFault at why) text is = is
is_text texts (Trailing at) text is = is
is_text texts (TooLong k) text is = is
is_text texts (TooManyNodes count) text is = is
is_text texts (LoadFault k) text is = is
is_text texts Done text is = is
is_text texts Usage text is = tt
is_text texts UnknownRoot text is = is
is_text texts Stamp text is = is
is_text texts ReadFault text is = is
is_text texts WriteFault text is = is
is_text texts OutOfMemory text is = is

module _ (texts : Texts) (o : Outcome) (old new : Option (List ℕ)) (text : List ℕ) (faults faults_now : ℕ) (to : Appends old new text ⊎ (HasRisen faults faults_now × AppendsFront old new text)) where
  pub complaint_written : IsComplaintOf texts o text → Complains texts o old new faults faults_now
  complaint_written c =
      record { text = text; is = is_text texts o text (inl c); some = λ other e. some_complaint o (about texts o).0 (about texts o).1 text c e; written = to }

  pub line_written : text ≡ line o → Complains texts o old new faults faults_now
  line_written is = record { text = text; is = is_text texts o text (inr is); some = λ other e. some_line o other (sym is ∙ e); written = to }

-- a message about words
pub message_written : (texts : Texts) (old new : Option (List ℕ)) (text : List ℕ) (faults faults_now : ℕ) → Appends old new text ⊎ (HasRisen faults faults_now × AppendsFront old new text)
    → (text ≡ [] → ⊥) → Complains texts Usage old new faults faults_now
message_written texts old new text faults faults_now to some = record { text = text; is = tt; some = λ other e. some e; written = to }
