-- Files that are loaded by their own names.
use Rattle.std.proofs.Common.{◌≡◌, ◌⊎◌, ℕ, suc, Bool, true, false, List, [], ◌∷◌, ◌++◌, length, refl, ap, subst, inl, inr, arith, Option, Some, None, Result, Ok, Err}
use Rattle.std.specs.Prelude.{bytes_eq, if◌then◌else◌}
use Rattle.std.proofs.lemmas.Slice.Eq.{bytes_eq-Decides}
use Rattle.base_texts.specs.Entries.{beside}
use Rattle.transcode_words.specs.declared.outcome.Outcome.{Outcome}
use Rattle.transcode_words.specs.Answers.{Answers, IsRefusal, NoMemory}
use Rattle.transcode_core.specs.Causes.{SomeLoad, OneRead}
use Rattle.transcode_messages.specs.Messages.{names_of}

-- the first of these names is that of the file
same_name : (x y : List ℕ) (xs ys : List (List ℕ)) → x ∷ xs ≡ y ∷ ys → x ≡ y
same_name x y xs ys e = cc

same_rest : (x y : List ℕ) (xs ys : List (List ℕ)) → x ∷ xs ≡ y ∷ ys → xs ≡ ys
same_rest x y xs ys e = cc

-- a test that holds is found, and behind one that isn't found is none
found : {A : Type 0} (test : Bool) (a : A) (more : Option A) → test ≡ true → (if test then Some a else more) ≡ None → ⊥
found true a more is lacks = cc
found false a more is lacks = cc

later : {A : Type 0} (test : Bool) (a : A) (more : Option A) → (if test then Some a else more) ≡ None → more ≡ None
later true a more lacks = cc
later false a more lacks = lacks

-- none of them is lacking
pub none_lacking : (name : List ℕ) (files : List (List ℕ × List ℕ)) (before after : List (List ℕ)) → names_of files ≡ before ++ name ∷ after → beside name files ≡ None → ⊥
none_lacking name [] [] after e lacks = cc
none_lacking name [] (b ∷ before) after e lacks = cc
none_lacking name (file ∷ files) [] after e lacks =
    let same : bytes_eq file.0 name ≡ true = subst (λ n. bytes_eq file.0 n ≡ true) (same_name file.0 name (names_of files) after e) ((bytes_eq-Decides file.0 file.0).1 refl) in
    found (bytes_eq file.0 name) file.1 (beside name files) same lacks
none_lacking name (file ∷ files) (b ∷ before) after e lacks =
    none_lacking name files before after (same_rest file.0 b (names_of files) (before ++ name ∷ after) e) (later (bytes_eq file.0 name) file.1 (beside name files) lacks)

-- so no load fails, and memory is the only cause outside
pub only_memory : {C D : Type 0} (due : Result D Outcome → Type 0) (view : C → D) (files : List (List ℕ × List ℕ)) (loads loads_now : ℕ) (v : Result C Outcome)
    → Answers view due (SomeLoad loads loads_now true (Some files) (names_of files)) v → Answers view due NoMemory v
only_memory due view files loads loads_now (Ok c) h = h
only_memory due view files loads loads_now (Err o) (inl h) = inl h
only_memory due view files loads loads_now (Err o) (inr (inl memory)) = inr memory
only_memory due view files loads loads_now (Err o) (inr (inr (k, name, is, reaches, fails))) =
    absurd (none_lacking name files reaches.before reaches.after reaches.split (fails.lacks refl))

-- as many names as files
pub length-names : (files : List (List ℕ × List ℕ)) → length (names_of files) ≡ length files
length-names [] = refl
length-names (file ∷ files) = ap (λ n. suc n) (length-names files)

-- a source that never fails
pub sure_refusal : (due : Type 0) (o : Outcome) → (due × IsRefusal o) ⊎ OneRead 0 0 o → (due × IsRefusal o) ⊎ NoMemory o
sure_refusal due o (inl h) = inl h
sure_refusal due o (inr (inl memory)) = inr memory
sure_refusal due o (inr (inr (is, rose))) = absurd (omega (arith, rose))
