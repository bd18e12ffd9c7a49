-- Names and identifiers.
use Rattle.std.specs.Prelude.{ℕ, Bool, true, false, not, ◌&&◌, List, [], ◌∷◌, ◌++◌, IsFalse, codes, nat_eq}
use Rattle.std.specs.List.{list_any}
use Rattle.std.specs.Cmp.Lexicographic.{pointwise}
use Rattle.lexical.specs.Class.{is_ident_start, is_ident_continue}
use Rattle.lexical.specs.Text.{begins_any}
use Rattle.lexical.specs.Form.{Form}
use Rattle.lexical.specs.Rule.{Rule, One, Run, Exactly, Then, NotAt, Where, Stands}
use Rattle.lexical.specs.Token.{raw_front}

-- `name`: a character that may begin an identifier and all after it that may continue one
abbrev pub name : Rule
name = Then (One is_ident_start) (Run is_ident_continue)

-- `name`: a piece of the rule `name`
abbrev pub Name : Form
Name = Stands name

-- `reserved-prefix`: how a literal begins that has letters before its quote
abbrev pub literal_prefixes : List (List ℕ)
literal_prefixes =
    codes "r\"" ∷ codes "r#\"" ∷ codes "r##"
    ∷ codes "b\"" ∷ codes "b'" ∷ codes "br\"" ∷ codes "br#"
    ∷ codes "c\"" ∷ codes "cr\"" ∷ codes "cr#" ∷ []

-- `plain-identifier`: a name, if no `r#` begins there
abbrev pub plain : Rule
plain = NotAt (codes "r#" ∷ []) name

-- `plain-identifier`: a piece of the rule `plain`
abbrev pub PlainIdentifier : Form
PlainIdentifier = Stands plain

-- `raw-reserved`: the names that a raw identifier must not have
abbrev pub reserved_names : List (List ℕ)
reserved_names = codes "_" ∷ codes "super" ∷ codes "self" ∷ codes "Self" ∷ codes "crate" ∷ []

-- `raw-reserved`: whether the name is one of `reserved_names`
abbrev pub is_reserved : List ℕ → Bool
is_reserved name = list_any (λ reserved. pointwise nat_eq name reserved) reserved_names

-- whether an identifier may have the name. A plain one may have any name, a raw one none of `reserved_names`
abbrev pub is_allowed : Bool → List ℕ → Bool
is_allowed raw name = not (raw && is_reserved name)

-- `raw-identifier`: the name after `r#`, which is not reserved
abbrev pub raw_name : Rule
raw_name = Where (is_allowed true) name

-- `raw-identifier`: a piece of the rule `raw_name`
abbrev pub RawIdentifier : Form
RawIdentifier = Stands raw_name

-- the name of an identifier, raw or plain, even if a literal begins there
abbrev pub Named : Bool → Form
Named true = RawIdentifier
Named false = PlainIdentifier

-- an identifier as it is written, raw or plain, even if a literal begins there
abbrev pub any_identifier : Bool → Rule
any_identifier true = Then (Exactly (codes "r#")) raw_name
any_identifier false = plain

-- `identifier`: an identifier as it is written, raw or plain, if no literal begins there
abbrev pub identifier : Bool → Rule
identifier raw = NotAt literal_prefixes (any_identifier raw)

-- `identifier`: the name of an identifier, raw or plain, if no literal begins there
abbrev pub Identifier : Bool → Form
Identifier raw name r = Named raw name r × IsFalse (begins_any literal_prefixes (raw_front raw ++ (name ++ r)))
