-- An entry gets another number, or another label.
use Rattle.std.proofs.Common.{◌≡◌, ℕ, List, ◌∷◌, ◌++◌, get_or, set, ◌∙◌, ap}
use Rattle.std.proofs.Math.Seq.{set-append_seam, get_or-append_seam}
use Rattle.base_flat_trees.specs.declared.entries.Entry.{Entry}
use Rattle.base_flat_trees.specs.Entries.{GetsBelow, GetsLabel}

pub gets_below : {L : Type 0} (old : List (Entry L)) (at below : ℕ) (x : Entry L) → x ≡ get_or old at x → GetsBelow old at below x.below (set old at (record { label = x.label; below = below }))
gets_below old at below x value front e later is place =
    let same : x ≡ e = value ∙ ap (λ es. get_or es at x) is ∙ ap (λ (n : ℕ). get_or (front ++ e ∷ later) n x) place ∙ get_or-append_seam front e later x in (
      ap (λ (y : Entry _). y.below) same,
      ap (λ es. set es at (record { label = x.label; below = below })) is ∙ ap (λ (n : ℕ). set (front ++ e ∷ later) n (record { label = x.label; below = below })) place
          ∙ set-append_seam front e later (record { label = x.label; below = below }) ∙ ap (λ (y : Entry _). front ++ record { label = y.label; below = below } ∷ later) same,
    )

pub gets_label : {L : Type 0} (old : List (Entry L)) (at : ℕ) (label : L) (x : Entry L) → x ≡ get_or old at x → GetsLabel old at label x.label (set old at (record { label = label; below = x.below }))
gets_label old at label x value front e later is place =
    let same : x ≡ e = value ∙ ap (λ es. get_or es at x) is ∙ ap (λ (n : ℕ). get_or (front ++ e ∷ later) n x) place ∙ get_or-append_seam front e later x in (
      ap (λ (y : Entry _). y.label) same,
      ap (λ es. set es at (record { label = label; below = x.below })) is ∙ ap (λ (n : ℕ). set (front ++ e ∷ later) n (record { label = label; below = x.below })) place
          ∙ set-append_seam front e later (record { label = label; below = x.below }) ∙ ap (λ (y : Entry _). front ++ record { label = label; below = y.below } ∷ later) same,
    )
