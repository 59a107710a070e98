-- The request that words make is within its limits.
use Rattle.std.proofs.Common.{◌≡◌, ◌≤◌, ℕ, Bool, true, false, cond, List, [], ◌∷◌, length, refl, sym, subst, arith, Option, Some, None, Result}
use Rattle.std.specs.Prelude.{bytes_eq, codes, nat_le, IfOk, ◌&&◌, not, ◌==◌, ◌+◌, ◌*◌, ◌-◌}
use Rattle.std.specs.List.{list_all}
use Rattle.std.proofs.lemmas.Bool.{and_parts, leb-true}
use Rattle.std.proofs.lemmas.Bool.Decides.{nat_tests}
use Rattle.std.specs.Option.{option_map, ok_or}
use Rattle.base_texts.specs.Digits.{is_digit, number_of}
use Rattle.base_texts.specs.declared.texts.Name.{Name}
use Rattle.transcode_words.specs.declared.asked.Asked.{Asked as CodeAsked}
use Rattle.transcode_words.specs.declared.asked.Form.TheVariants.{Notation}
use Rattle.transcode_words.specs.declared.asked.Task.{Task}
use Rattle.transcode_words.specs.declared.outcome.Outcome.{Outcome}
use Rattle.transcode_words.specs.declared.outcome.Outcome.TheVariants.{Usage}
use Rattle.transcode_words.specs.Words.{are_files, root_of, rooted_parts, is_count}
use Rattle.transcode_words.specs.Asked.{Named, Asked, Show, Serve, Trial, IsWithin}
use Rattle.transcode_words.specs.AskedSeen.{asked_seen}
use Rattle.transcode_words.specs.Commands.{task_of, tasked_by, shown_back_by, tried_by, asked_by}
use Rattle.transcode_words.proofs.WordLemmas.{le-number_from}

-- ---- files, and numbers of lines

abbrev ArePartsFew : Option (Name × List (List ℕ)) → Type 0
ArePartsFew None = Unit {0}
ArePartsFew (Some parts) = length parts.1 ≤ 64

pub few_of : (files : List (List ℕ)) → are_files files ≡ true → length files ≤ 64
few_of files e = leb-true (length files) 64 (and_parts (nat_le 1 (length files)) (nat_le (length files) 64) e).1

parts_unless : (t : Bool) (x : Option (Name × List (List ℕ))) → (t ≡ true → ArePartsFew x) → ArePartsFew (cond t x None)
parts_unless true x h = h refl
parts_unless false x h = tt

with_name : (found : Option Name) (files : List (List ℕ)) → length files ≤ 64 → ArePartsFew (option_map (λ (name : Name). (name, files)) found)
with_name None files few = tt
with_name (Some name) files few = few

few_parts : (words : List (List ℕ)) → ArePartsFew (rooted_parts words)
few_parts [] = tt
few_parts (root ∷ files) = parts_unless (are_files files) (option_map (λ (name : Name). (name, files)) (root_of root)) (λ e. with_name (root_of root) files (few_of files e))

-- a number without a leading zero isn't zero
from_one : (b : ℕ) → is_digit b ≡ true → not (b == 48) ≡ true → 1 ≤ b - 48
from_one b digit other = grind (arith, nat_tests)

pub count_within : (word : List ℕ) → is_count word ≡ true → (1 ≤ number_of word) × (number_of word ≤ 100000)
count_within [] e = absurd (cc)
count_within (b ∷ bs) e =
    let parts = and_parts (list_all is_digit (b ∷ bs) && not (b == 48)) (nat_le (number_of (b ∷ bs)) 100000) e in
    let front = and_parts (list_all is_digit (b ∷ bs)) (not (b == 48)) parts.0 in
    let digit = (and_parts (is_digit b) (list_all is_digit bs) front.0).0 in
    let some = from_one b digit front.1 in
    (omega (arith, some, le-number_from (10 * 0 + (b - 48)) bs), leb-true (number_of (b ∷ bs)) 100000 parts.1)

-- ---- requests

abbrev IsFew : Option Asked → Type 0
IsFew None = Unit {0}
IsFew (Some asked) = IsWithin asked

either : (t : Bool) (x y : Option Asked) → IsFew x → IsFew y → IsFew (cond t x y)
either true x y p q = p
either false x y p q = q

unless : (t : Bool) (asked : Asked) → (t ≡ true → IsWithin asked) → IsFew (cond t (Some asked) None)
unless true asked h = h refl
unless false asked h = tt

few_served : (task : Task) (found : Option (Name × List (List ℕ))) → ArePartsFew found → IsFew (option_map (λ (parts : Name × List (List ℕ)). Serve task (Named parts.0) parts.1) found)
few_served task None few = tt
few_served task (Some parts) few = few

few_tasked : (task : Option Task) (words : List (List ℕ)) → IsFew (tasked_by task words)
few_tasked None words = tt
few_tasked (Some task) words = few_served task (rooted_parts words) (few_parts words)

few_lines : (t : Bool) (n : ℕ) → (t ≡ true → (1 ≤ n) × (n ≤ 100000)) → IsFew (option_map (λ (n : ℕ). Trial n) (cond t (Some n) None))
few_lines true n h = h refl
few_lines false n h = tt

few_tried : (words : List (List ℕ)) → IsFew (tried_by words)
few_tried [] = tt
few_tried (word ∷ []) = few_lines (is_count word) (number_of word) (count_within word)
few_tried (word ∷ other ∷ words) = tt

few_back : (words : List (List ℕ)) → IsFew (shown_back_by words)
few_back [] = tt
few_back (file ∷ []) = tt
few_back (file ∷ other ∷ words) = tt

few_asked : (words : List (List ℕ)) → IsFew (asked_by words)
few_asked [] = tt
few_asked (command ∷ words) =
    either (bytes_eq command (codes "show")) _ _ (unless (are_files words) (Show Notation words) (λ e. few_of words e))
    (either (bytes_eq command (codes "show-back")) _ _ (few_back words)
    (either (bytes_eq command (codes "trial")) _ _ (few_tried words) (few_tasked (task_of command) words)))

few_found : (words : List (List ℕ)) (found : Option CodeAsked) → option_map asked_seen found ≡ asked_by words → IfOk (ok_or found Usage) (λ asked. IsWithin (asked_seen asked))
few_found words None is = tt
few_found words (Some asked) is = subst IsFew (sym is) (few_asked words)

pub few_read : (words : List (List ℕ)) (found : Option CodeAsked) (v : Result CodeAsked Outcome) → option_map asked_seen found ≡ asked_by words → v ≡ ok_or found Usage
    → IfOk v (λ asked. IsWithin (asked_seen asked))
few_read words found v is so = subst (λ (v : Result CodeAsked Outcome). IfOk v (λ asked. IsWithin (asked_seen asked))) (sym so) (few_found words found is)
