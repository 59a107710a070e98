-- The request that options make is within its limits.
use Rattle.std.proofs.Common.{◌≡◌, ◌≤◌, ℕ, Bool, true, false, cond, List, [], ◌∷◌, refl, sym, subst, Option, Some, None, Result}
use Rattle.std.specs.Prelude.{IfOk, option_and_then}
use Rattle.std.specs.Option.{option_map, ok_or}
use Rattle.base_texts.specs.Digits.{number_of}
use Rattle.transcode_words.specs.declared.asked.Asked.{Asked as CodeAsked}
use Rattle.transcode_words.specs.declared.asked.Form.{Form}
use Rattle.transcode_words.specs.declared.asked.Task.{Task}
use Rattle.transcode_words.specs.declared.outcome.Outcome.{Outcome}
use Rattle.transcode_words.specs.declared.outcome.Outcome.TheVariants.{Usage}
use Rattle.transcode_words.specs.Words.{are_files, is_count}
use Rattle.transcode_words.specs.Asked as asked
use Rattle.transcode_words.specs.Asked.{Root, Asked, IsWithin}
use Rattle.transcode_words.specs.AskedSeen.{asked_seen}
use Rattle.transcode_words.proofs.FewAsked.{few_of, count_within}
use Rattle.people_options.specs.declared.options.CommandName.{CommandName}
use Rattle.people_options.specs.declared.options.Given.{Given}
use Rattle.people_options.specs.Requests.{rooted, chosen, served_by, shown_by, shown_back_by, tried_by, Action, Show, ShowBack, Serve, Trial, acted_by, action_by, asked_by}

abbrev IsFew : Option Asked → Type 0
IsFew None = Unit {0}
IsFew (Some asked) = IsWithin asked

unless : (t : Bool) (asked : Option Asked) → (t ≡ true → IsFew asked) → IsFew (cond t asked None)
unless true asked h = h refl
unless false asked h = tt

with_root : (task : Task) (root : Option Root) (files : List (List ℕ)) → are_files files ≡ true → IsFew (option_map (λ (root : Root). asked.Serve task root files) root)
with_root task None files e = tt
with_root task (Some root) files e = few_of files e

few_served : (task : Task) (parts : Option (List ℕ) × List (List ℕ)) → IsFew (served_by task parts)
few_served task parts = unless (are_files parts.1) _ (λ e. with_root task (chosen parts.0) parts.1 e)

few_shown : (form : Form) (files : List (List ℕ)) → IsFew (shown_by form files)
few_shown form files = unless (are_files files) (Some (asked.Show form files)) (λ e. few_of files e)

few_lines : (t : Bool) (n : ℕ) → (t ≡ true → (1 ≤ n) × (n ≤ 100000)) → IsFew (option_map (λ (n : ℕ). asked.Trial n) (cond t (Some n) None))
few_lines true n h = h refl
few_lines false n h = tt

few_tried : (words : List (List ℕ)) → IsFew (tried_by words)
few_tried [] = tt
few_tried (word ∷ []) = few_lines (is_count word) (number_of word) (count_within word)
few_tried (word ∷ other ∷ words) = tt

few_back : (words : List (List ℕ)) → IsFew (shown_back_by words)
few_back [] = tt
few_back (file ∷ []) = tt
few_back (file ∷ other ∷ words) = tt

few_acted : (act : Action) (words : List (List ℕ)) → IsFew (acted_by act words)
few_acted (Show form) words = few_shown form words
few_acted ShowBack words = few_back words
few_acted (Serve task root) words = few_served task (rooted root words)
few_acted Trial words = few_tried words

few_then : (act : Option Action) (words : List (List ℕ)) → IsFew (option_and_then (λ act. acted_by act words) act)
few_then None words = tt
few_then (Some act) words = few_acted act words

module _ (command : CommandName) (given : Given) (words : List (List ℕ)) where
  few_found : (found : Option CodeAsked) → option_map asked_seen found ≡ asked_by command given words → IfOk (ok_or found Usage) (λ asked. IsWithin (asked_seen asked))
  few_found None is = tt
  few_found (Some asked) is = subst IsFew (sym is) (few_then (action_by command given) words)

  pub few_request : (found : Option CodeAsked) (v : Result CodeAsked Outcome) → option_map asked_seen found ≡ asked_by command given words → v ≡ ok_or found Usage
      → IfOk v (λ asked. IsWithin (asked_seen asked))
  few_request found v is so = subst (λ (v : Result CodeAsked Outcome). IfOk v (λ asked. IsWithin (asked_seen asked))) (sym so) (few_found found is)
