-- The hash of a name: names with different hashes are different.
use Rattle.std.specs.Prelude.{◌+◌, ◌*◌, ◌%◌, ◌^◌, ℕ, length}
use Rattle.std.specs.List.{fold}
use Rattle.base_texts.specs.declared.texts.Name.{Name}

-- The length of the namespace followed by the bytes of the local name as digits in base 257, modulo 2 ^ 64.
abbrev pub hash_of : Name → ℕ
hash_of name = fold (λ hash byte. ((hash * 257) % 2 ^ 64 + byte) % 2 ^ 64) (length name.space) name.local
