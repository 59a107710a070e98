-- The instruction NAME of ITU-T X.693: the form that restores an XML name from the generated ASN.1 name.
use Rattle.std.specs.Prelude.{ℕ, List, [], ◌∷◌, Option, Some, None, bytes_eq, if◌then◌else◌}
use Rattle.std.specs.Char.{to_ascii_uppercase, to_ascii_lowercase}
use Rattle.asn_names.specs.declared.restoration.NameForm.{NameForm}
use Rattle.asn_names.specs.declared.restoration.NameForm.TheVariants.{Capitalized, Uncapitalized, Quoted}

-- The name with its first letter raised.
abbrev pub capitalized : List ℕ → List ℕ
capitalized [] = []
capitalized (c ∷ cs) = to_ascii_uppercase c ∷ cs

-- The name with its first letter lowered.
abbrev pub uncapitalized : List ℕ → List ℕ
uncapitalized [] = []
uncapitalized (c ∷ cs) = to_ascii_lowercase c ∷ cs

-- The name that a form gives for a generated name; the quoted form gives the quoted name.
abbrev pub named : Option NameForm → List ℕ → List ℕ → List ℕ
named None generated quoted = generated
named (Some Capitalized) generated quoted = capitalized generated
named (Some Uncapitalized) generated quoted = uncapitalized generated
named (Some Quoted) generated quoted = quoted

-- The first of no form, Capitalized, Uncapitalized and Quoted that gives the original name.
abbrev pub form_of : List ℕ → List ℕ → Option NameForm
form_of generated original =
    if bytes_eq generated original then None
    else if bytes_eq (capitalized generated) original then Some Capitalized
    else if bytes_eq (uncapitalized generated) original then Some Uncapitalized
    else Some Quoted
