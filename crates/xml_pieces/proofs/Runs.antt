-- Runs of bytes that pass a test.
use Rattle.std.proofs.Common.{◌≡◌, ℕ, suc, ◌+◌, Bool, true, false, cond, List, [], ◌∷◌, ◌++◌, length, take, get_or, refl, arith}
use Rattle.std.specs.List.{prefix_len, list_all}
use Rattle.xml_pieces.proofs.Tools.{and_true}

pub get_or-middle : (xs ys : List ℕ) (b : ℕ) → get_or (xs ++ b ∷ ys) (length xs) 0 ≡ b
get_or-middle [] ys b = refl
get_or-middle (x ∷ xs) ys b = get_or-middle xs ys b

all_go : (p : ℕ → Bool) (b : ℕ) (bs : List ℕ) (v : Bool) → p b ≡ v → list_all p (take (prefix_len p bs) bs) ≡ true → list_all p (take (cond v (1 + prefix_len p bs) 0) (b ∷ bs)) ≡ true
all_go p b bs true e more = let k : 1 + prefix_len p bs ≡ suc (prefix_len p bs) = omega arith in rw (k, e) more
all_go p b bs false e more = refl

pub all_front : (p : ℕ → Bool) (bs : List ℕ) → list_all p (take (prefix_len p bs) bs) ≡ true
all_front p [] = refl
all_front p (b ∷ bs) = all_go p b bs (p b) refl (all_front p bs)

pub prefix_again : (p : ℕ → Bool) (front rest : List ℕ) (b : ℕ) → list_all p front ≡ true → p b ≡ false → prefix_len p (front ++ b ∷ rest) ≡ length front
prefix_again p [] rest b all stop = rw stop refl
prefix_again p (m ∷ front) rest b all stop =
    let both = and_true (p m) (list_all p front) all in
    rw (both.0, prefix_again p front rest b both.1 stop) (omega arith)

pub prefix_whole : (p : ℕ → Bool) (front : List ℕ) → list_all p front ≡ true → prefix_len p front ≡ length front
prefix_whole p [] all = refl
prefix_whole p (m ∷ front) all =
    let both = and_true (p m) (list_all p front) all in
    rw (both.0, prefix_whole p front both.1) (omega arith)
