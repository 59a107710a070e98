-- Refusals, each with its status and its line.
use Rattle.std.proofs.Common.{◌≡◌, ◌≢◌, ◌⊎◌, ℕ, ℤ, Bool, true, false, pos, w32, to_z, of_z, List, length, refl, sym, subst, ◌∙◌, inl, inr, Option, Some, None, Result, Ok, Err}
use Rattle.std.specs.Prelude.{IfSome, IsSomeAnd, IfErr, MatchResult, if◌then◌else◌}
use Rattle.schema_components.specs.Components.{Set}
use Rattle.transcode_words.specs.declared.outcome.Outcome.{Outcome}
use Rattle.transcode_words.specs.declared.outcome.Outcome.TheVariants.{Done, Usage, SchemaSyntax, SchemaFault, LinkFault, UnknownRoot, Stamp, DocSyntax, Invalid, PerFault, RecordFault, DerFault, ModuleFault, Trailing, TooLong, TooManyNodes, LoadFault, ReadFault, WriteFault, OutOfMemory}
use Rattle.transcode_words.specs.Answers.{Answers, IsRefusal, NoMemory}
use Rattle.transcode_words.specs.Status.{status}
use Rattle.transcode_messages.specs.declared.converting.Message.{Message}
use denote.RawPtr.{Ptr}
use Rattle.ruvkhiska_c.specs.declared.complaint.Complaint.{Complaint}
use Rattle.ruvkhiska_c.specs.Complaints.{Tells}
use Rattle.ruvkhiska_c.specs.Statuses.{RefusesWith, ends_short, next_status}
use Rattle.ruvkhiska_c.specs.Pointing.{PointsTo}

-- as a number of C
abbrev pub in_c : ℤ → ℤ
in_c z = to_z w32 (of_z w32 z)

pub status_in_c : (o : Outcome) → in_c (pos (status o)) ≡ pos (status o)
status_in_c Done = refl
status_in_c Usage = refl
status_in_c (SchemaSyntax _ _ _) = refl
status_in_c (SchemaFault _ _ _) = refl
status_in_c (LinkFault _ _ _) = refl
status_in_c UnknownRoot = refl
status_in_c Stamp = refl
status_in_c (DocSyntax _ _) = refl
status_in_c (Invalid _ _) = refl
status_in_c (PerFault _ _) = refl
status_in_c (RecordFault _ _ _) = refl
status_in_c (DerFault _ _) = refl
status_in_c (ModuleFault _ _) = refl
status_in_c (Trailing _) = refl
status_in_c (TooLong _) = refl
status_in_c (TooManyNodes _) = refl
status_in_c (LoadFault _) = refl
status_in_c ReadFault = refl
status_in_c WriteFault = refl
status_in_c OutOfMemory = refl

-- the status of a rejection of octets that may go on
either_in_c : (short : Bool) (o : Outcome) → in_c (pos (if short then 41 else status o)) ≡ pos (if short then 41 else status o)
either_in_c true o = refl
either_in_c false o = status_in_c o

pub next_in_c : (o : Outcome) → in_c (pos (next_status o)) ≡ pos (next_status o)
next_in_c o = either_in_c (ends_short o) o

-- a status that fits in a number of C
abbrev pub Fitting : Type 0
Fitting = (status_of : Outcome → ℕ) × ((o : Outcome) → in_c (pos (status_of o)) ≡ pos (status_of o))

abbrev pub by_status : Fitting
by_status = (status, status_in_c)

abbrev pub by_next : Fitting
by_next = (next_status, next_in_c)

same_in_c : (by : Fitting) (o : Outcome) (result : ℤ) → result ≡ pos (by.0 o) → in_c result ≡ pos (by.0 o)
same_in_c by o result is = subst (λ z. in_c z ≡ pos (by.0 o)) (sym is) (by.1 o)

-- a value of what is prepared and of a message that are there
pub both : (P : Set × ℕ → Message → Type 0) (value : Option (Set × ℕ)) (p : Set × ℕ) → value ≡ Some p → (given : Option Message) (m : Message) → given ≡ Some m → P p m
    → IfSome value (λ q. IsSomeAnd given (λ n. P q n))
both P value p is given m gives holds = subst (λ v. IfSome v (λ q. IsSomeAnd given (λ n. P q n))) (sym is) (subst (λ g. IsSomeAnd g (λ n. P p n)) (sym gives) holds)

module _ {A : Type 0} (by : Fitting) (due : Set × ℕ → Result A Outcome → Type 0) (value : Option (Set × ℕ)) (p : Set × ℕ) (is : value ≡ Some p) (result : ℤ) (complaint : Complaint) where
  -- what is told of a refusal, where the converter is open
  pub refusal_told : (o : Outcome) → result ≡ pos (by.0 o) → Tells o complaint → (due p (Err o) × IsRefusal o) ⊎ NoMemory o → IfSome value (λ q. RefusesWith by.0 (due q) (in_c result) complaint)
  refusal_told o told line refusal = subst (λ v. IfSome v (λ q. RefusesWith by.0 (due q) (in_c result) complaint)) (sym is) (o, same_in_c by o result told, line, refusal)

  -- the same of an answer
  pub answer_told : {C : Type 0} (view : C → A) (v : Result C Outcome) (Given Counts : C → Type 0) (Same : Type 0) → Answers view (due p) NoMemory v
      → MatchResult v (λ b. (result ≡ pos 0) × Given b × Counts b) (λ o. (result ≡ pos (by.0 o)) × Same × Tells o complaint) → in_c result ≢ pos 0
      → IfSome value (λ q. RefusesWith by.0 (due q) (in_c result) complaint)
  answer_told view (Ok b) Given Counts Same answers (zero, given, counts) other = absurd (other (subst (λ z. in_c z ≡ pos 0) (sym zero) refl))
  answer_told view (Err o) Given Counts Same answers (told, same, line) other = refusal_told o told line answers

-- what is given, where the converter is open
pub answer_given : (due : Set × ℕ → Result (List ℕ) Outcome → Type 0) (value : Option (Set × ℕ)) (p : Set × ℕ) (is : value ≡ Some p) (result : ℤ)
    {C : Type 0} (message : C → Message) (v : Result C Outcome) (given : Option Message) (start : Ptr) (count : ℕ) (Same : Type 0) (Line : Outcome → Type 0)
    → Answers (λ b. (message b).bytes.items) (due p) NoMemory v
    → MatchResult v (λ b. (result ≡ pos 0) × (given ≡ Some (message b)) × PointsTo start count (message b)) (λ o. (result ≡ pos (status o)) × Same × Line o)
    → IfErr v (λ _. result ≢ pos 0) → in_c result ≡ pos 0
    → IfSome value (λ q. IsSomeAnd given (λ m. due q (Ok m.bytes.items) × PointsTo start count m))
answer_given due value p is result message (Ok b) given start count Same Line answers (zero, gives, counts) other done =
    subst (λ v. IfSome v (λ q. IsSomeAnd given (λ m. due q (Ok m.bytes.items) × PointsTo start count m))) (sym is)
    (subst (λ g. IsSomeAnd g (λ m. due p (Ok m.bytes.items) × PointsTo start count m)) (sym gives) (answers, counts))
answer_given due value p is result message (Err o) given start count Same Line answers (told, same, line) other done = absurd (other (told ∙ sym (same_in_c by_status o result told) ∙ done))

-- what was given is such of what is kept
pub given_such : {A B : Type 0} (P : A → B → Type 0) (kept : Option A) (p : A) → kept ≡ Some p → (given : Option B) (m : B) → given ≡ Some m → P p m → IfSome kept (λ q. IsSomeAnd given (λ x. P q x))
given_such P kept p is given m has such = rw (is, has) such
