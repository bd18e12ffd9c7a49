-- Where white space is needed: one pair of each kind that must be parted, and one that need not be parted.
use Rattle.std.proofs.Common.{◌≡◌, true, false, [], codes, refl}
use Rattle.unicode_ident.proofs.Computing.{unicode_ident}
use Rattle.lexical.specs.Token.{Token, Name, Mark, Literal}
use Rattle.pm_token.specs.declared.delimiters.Delimiter.TheVariants.{Parenthesis}
use Rattle.pm_stream.specs.Events.{Event, One, Opens}
use Rattle.layout.specs.Layout.{must_part, may_part}

abbrev one : Token → Event
one token = One token 0 0

names : must_part (one (Name false (codes "fn"))) (one (Name false (codes "f"))) [] ≡ true
unfolding unicode_ident
names = refl

name_string : must_part (one (Name false (codes "r"))) (one (Literal (codes "\"\""))) [] ≡ true
unfolding unicode_ident
name_string = refl

name_group : must_part (one (Name false (codes "f"))) (Opens Parenthesis 0) [] ≡ false
unfolding unicode_ident
name_group = refl

name_dot : must_part (one (Name false (codes "a"))) (one (Mark 46 false)) [] ≡ false
unfolding unicode_ident
name_dot = refl

-- digits need not be parted from a dot right before a name or another dot
number_dot_name : must_part (one (Literal (codes "1"))) (one (Mark 46 false)) (codes "a") ≡ false
unfolding unicode_ident
number_dot_name = refl

number_range : must_part (one (Literal (codes "1_0"))) (one (Mark 46 true)) (codes ".") ≡ false
unfolding unicode_ident
number_range = refl

number_dot_space : must_part (one (Literal (codes "1"))) (one (Mark 46 false)) (codes " a") ≡ true
unfolding unicode_ident
number_dot_space = refl

number_dot_number : must_part (one (Literal (codes "1"))) (one (Mark 46 false)) (codes "2") ≡ true
unfolding unicode_ident
number_dot_number = refl

-- any other number must be parted from a dot only if it ends with one
suffix_dot : must_part (one (Literal (codes "1i32"))) (one (Mark 46 false)) (codes " a") ≡ false
unfolding unicode_ident
suffix_dot = refl

float_dot : must_part (one (Literal (codes "2.0"))) (one (Mark 46 false)) (codes "2") ≡ false
unfolding unicode_ident
float_dot = refl

float_range : must_part (one (Literal (codes "1."))) (one (Mark 46 true)) (codes ".") ≡ true
unfolding unicode_ident
float_range = refl

string_dot : must_part (one (Literal (codes "\"\""))) (one (Mark 46 false)) [] ≡ false
unfolding unicode_ident
string_dot = refl

string_name : must_part (one (Literal (codes "\"\""))) (one (Name false (codes "a"))) [] ≡ true
unfolding unicode_ident
string_name = refl

marks : must_part (one (Mark 43 false)) (one (Mark 61 false)) [] ≡ true
marks = refl

mark_name : must_part (one (Mark 43 false)) (one (Name false (codes "a"))) [] ≡ false
mark_name = refl

-- no gap is allowed after a Joint mark
joint : may_part (one (Mark 43 true)) (codes " ") (one (Mark 61 false)) [] ≡ false
joint = refl

glue_example : may_part (one (Mark 43 true)) (codes "") (one (Mark 61 false)) [] ≡ true
glue_example = refl
