-- Which trees are signs of which class.
use Rattle.std.proofs.Common.{◌≡◌, refl, sym, ◌∙◌, ap, subst, Bool, true, false, List, [], ◌∷◌, Option, Some, None}
use Rattle.std.proofs.Common.{ℕ, ◌==◌, ◌&&◌, ◌||◌, if◌then◌else◌}
use Rattle.std.specs.Prelude.{codes}
use Rattle.pm_token.specs.Leaf.{Name, is_joint}
use Rattle.pm_token.specs.declared.delimiters.Delimiter.{Delimiter}
use Rattle.pm_token.specs.declared.delimiters.Delimiter.TheVariants as delimiters
use Rattle.pm_stream.specs.Forest.{Forest}
use Rattle.pm_stream.specs.declared.stream.Group.{Group as Grouped}
use Rattle.pm_stream.specs.declared.stream.TokenTree.{TokenTree}
use Rattle.pm_stream.specs.declared.stream.TokenTree.TheVariants.{Group, Ident, Punct, Literal}
use Rattle.declarations.proofs.SignLemmas.{signs-cons, pair_signs}
use Rattle.declarations.specs.Bare.{innermost, innermost_trees}
use Rattle.declarations.specs.Signs.{Sign, signs, class_or_name, group_class, held_class, held_group, is_restriction}
use Rattle.declarations.specs.Signs.{is_truth, is_visibility, is_written, keyword_of, keyword_or_word, mark_class}
use Rattle.declarations.specs.Signs.{marks_class, name_class, operand_class, operator_class, or_else, pair_class}
use Rattle.declarations.specs.Signs.{joint_class, loose_class, parentheses_class, path_class, tree_class, unseen_class}
use Rattle.item_tables.specs.declared.class.SignClass.{SignClass}
use Rattle.item_tables.specs.declared.class.Keyword.{Keyword}
use Rattle.item_tables.specs.declared.class.SignClass.TheVariants as signs

-- the kind of trees that a sign has
pub data Sort : Type 0 where
  names : Sort
  groups : Sort
  marks : Sort
  literals : Sort
  pairs : Sort

abbrev pub sort_of : SignClass → Sort
sort_of signs.Restriction = groups
sort_of signs.Parentheses = groups
sort_of signs.Brackets = groups
sort_of signs.Braces = groups
sort_of signs.Visibility = groups
sort_of signs.Block = groups
sort_of signs.Invisible = groups
sort_of signs.Less = marks
sort_of signs.LessJoint = marks
sort_of signs.Greater = marks
sort_of signs.Comma = marks
sort_of signs.Colon = marks
sort_of signs.Semicolon = marks
sort_of signs.Equals = marks
sort_of signs.Plus = marks
sort_of signs.Minus = marks
sort_of signs.Star = marks
sort_of signs.And = marks
sort_of signs.Question = marks
sort_of signs.Exclamation = marks
sort_of signs.Hash = marks
sort_of signs.Tilde = marks
sort_of signs.Bar = marks
sort_of signs.Dot = marks
sort_of signs.Infix = marks
sort_of signs.Mark = marks
sort_of signs.Literal = literals
sort_of (signs.Word word) = names
sort_of signs.SelfValue = names
sort_of signs.SelfType = names
sort_of signs.Super = names
sort_of signs.Crate = names
sort_of signs.Underscore = names
sort_of signs.As = names
sort_of signs.Truth = names
sort_of signs.Await = names
sort_of signs.Jump = names
sort_of (signs.Keyword keyword) = names
sort_of _ = pairs

-- the first value whose condition holds
abbrev choice : {A : Type 0} → List (Bool × A) → A → A
choice [] default = default
choice (row ∷ rows) default = if row.0 then row.1 else choice rows default

-- what holds of all values of a choice
abbrev pub AllRows : {A : Type 0} → (A → Type 0) → List (Bool × A) → Type 0
AllRows P [] = Unit {0}
AllRows P (row ∷ rows) = P row.1 × AllRows P rows

either : {A : Type 0} (P : A → Type 0) (b : Bool) (x y : A) → P x → P y → P (if b then x else y)
either P true x y left right = left
either P false x y left right = right

pub choice_holds : {A : Type 0} (P : A → Type 0) (rows : List (Bool × A)) (default : A) → AllRows P rows → P default
    → P (choice rows default)
choice_holds P [] default all last = last
choice_holds P (row ∷ rows) default all last =
    either P row.0 row.1 (choice rows default) all.0 (choice_holds P rows default all.1 last)

abbrev IsSort : Sort → SignClass → Type 0
IsSort sort class = sort_of class ≡ sort

abbrev MayBe : Sort → Option SignClass → Type 0
MayBe sort None = Unit {0}
MayBe sort (Some class) = sort_of class ≡ sort

abbrev operator_rows : ℕ → List (Bool × SignClass)
operator_rows c =
    (c == 124, signs.Bar) ∷ (c == 46, signs.Dot) ∷
    ((c == 47) || ((c == 37) || ((c == 94) || (c == 64))), signs.Infix) ∷ []

operator_sort : (c : ℕ) → IsSort marks (operator_class c)
operator_sort c = choice_holds (IsSort marks) (operator_rows c) signs.Mark (refl, (refl, (refl, tt))) refl

abbrev late_mark_rows : ℕ → List (Bool × SignClass)
late_mark_rows c =
    (c == 43, signs.Plus) ∷ (c == 45, signs.Minus) ∷ (c == 42, signs.Star) ∷ (c == 38, signs.And) ∷
    (c == 63, signs.Question) ∷ (c == 33, signs.Exclamation) ∷ (c == 35, signs.Hash) ∷ (c == 126, signs.Tilde) ∷ []

abbrev mark_rows : ℕ → Bool → List (Bool × SignClass)
mark_rows c joint =
    ((c == 60) && joint, signs.LessJoint) ∷ (c == 60, signs.Less) ∷ (c == 62, signs.Greater) ∷
    (c == 44, signs.Comma) ∷ (c == 58, signs.Colon) ∷ (c == 59, signs.Semicolon) ∷ (c == 61, signs.Equals) ∷ []

mark_sort : (c : ℕ) (joint : Bool) → IsSort marks (mark_class c joint)
mark_sort c joint =
    choice_holds (IsSort marks) (mark_rows c joint) (choice (late_mark_rows c) (operator_class c))
    (refl, (refl, (refl, (refl, (refl, (refl, (refl, tt)))))))
    (choice_holds (IsSort marks) (late_mark_rows c) (operator_class c)
    (refl, (refl, (refl, (refl, (refl, (refl, (refl, (refl, tt)))))))) (operator_sort c))

or_else_sort : (o other : Option SignClass) → MayBe names o → MayBe names other → MayBe names (or_else o other)
or_else_sort None other first second = second
or_else_sort (Some class) other first second = first

abbrev pub path_rows : Name → List (Bool × Option SignClass)
path_rows i =
    (is_written i (codes "self"), Some signs.SelfValue) ∷ (is_written i (codes "Self"), Some signs.SelfType) ∷
    (is_written i (codes "super"), Some signs.Super) ∷ (is_written i (codes "crate"), Some signs.Crate) ∷
    (is_written i (codes "_"), Some signs.Underscore) ∷ []

path_sort : (i : Name) → MayBe names (path_class i)
path_sort i =
    choice_holds (MayBe names) (path_rows i) None
    (refl, (refl, (refl, (refl, (refl, tt)))))
    tt

abbrev pub operand_rows : Name → List (Bool × Option SignClass)
operand_rows i =
    (is_truth i, Some signs.Truth) ∷ (is_written i (codes "as"), Some signs.As) ∷
    (is_written i (codes "await"), Some signs.Await) ∷ (is_written i (codes "continue"), Some signs.Jump) ∷
    (is_written i (codes "return"), Some signs.Jump) ∷ (is_written i (codes "break"), Some signs.Jump) ∷
    (is_written i (codes "yield"), Some signs.Jump) ∷ []

operand_sort : (i : Name) → MayBe names (operand_class i)
operand_sort i =
    choice_holds (MayBe names) (operand_rows i) None
    (refl, (refl, (refl, (refl, (refl, (refl, (refl, tt)))))))
    tt

keyword_sort : (o : Option Keyword) (i : Name) → IsSort names (keyword_or_word o i)
keyword_sort None i = refl
keyword_sort (Some keyword) i = refl

class_sort : (o : Option SignClass) (i : Name) → MayBe names o → IsSort names (class_or_name o i)
class_sort None i may = keyword_sort (keyword_of i) i
class_sort (Some class) i may = may

pub name_sort : (i : Name) → IsSort names (name_class i)
name_sort i =
    class_sort (or_else (path_class i) (operand_class i)) i
    (or_else_sort (path_class i) (operand_class i) (path_sort i) (operand_sort i))

abbrev marks_rows : ℕ → ℕ → List (Bool × Option SignClass)
marks_rows first second =
    ((first == 58) && (second == 58), Some signs.PathSeparator) ∷
    ((first == 45) && (second == 62), Some signs.Arrow) ∷
    ((first == 60) && (second == 61), Some signs.LessEquals) ∷
    ((first == 124) && (second == 124), Some signs.Bars) ∷ []

marks_sort : (first second : ℕ) → MayBe pairs (marks_class first second)
marks_sort first second =
    choice_holds (MayBe pairs) (marks_rows first second) None
    (refl, (refl, (refl, (refl, tt))))
    tt

loose_sort : (first second : ℕ) → MayBe pairs (loose_class first second)
loose_sort first second =
    either (MayBe pairs) ((first == 35) && (second == 33)) (Some signs.HashBang) None refl tt

or_pair : (o other : Option SignClass) → MayBe pairs o → MayBe pairs other → MayBe pairs (or_else o other)
or_pair None other first second = second
or_pair (Some class) other first second = first

joint_sort : (first second : ℕ) → MayBe pairs (joint_class first second)
joint_sort first second =
    or_pair (marks_class first second) (loose_class first second) (marks_sort first second) (loose_sort first second)

pair_sort : (first second : TokenTree) → MayBe pairs (pair_class first second)
pair_sort (Punct p) (Punct q) =
    either (MayBe pairs) (is_joint p.spacing) (joint_class p.mark q.mark) (loose_class p.mark q.mark)
    (joint_sort p.mark q.mark) (loose_sort p.mark q.mark)
pair_sort (Punct p) (Ident i) = either (MayBe pairs) (p.mark == 39) (Some signs.Lifetime) None refl tt
pair_sort (Punct p) (Group g) = tt
pair_sort (Punct p) (Literal l) = tt
pair_sort (Group g) second = tt
pair_sort (Ident i) second = tt
pair_sort (Literal l) second = tt

held_one : (P : SignClass → Type 0) (d : Delimiter) → P signs.Block → P signs.Invisible → P (held_group d)
held_one P delimiters.Brace block other = block
held_one P delimiters.Parenthesis block other = other
held_one P delimiters.Bracket block other = other
held_one P delimiters.None block other = other

held_class_holds : (P : SignClass → Type 0) (trees : List TokenTree) → P signs.Lifetime → P signs.Literal
    → P signs.Block
    → P signs.Invisible
    → P (held_class trees)
held_class_holds P [] lifetime literal block other = other
held_class_holds P (Group g ∷ []) lifetime literal block other = held_one P g.delimiter block other
held_class_holds P (Group g ∷ tree ∷ rest) lifetime literal block other = other
held_class_holds P (Ident i ∷ rest) lifetime literal block other = other
held_class_holds P (Literal l ∷ []) lifetime literal block other = literal
held_class_holds P (Literal l ∷ tree ∷ rest) lifetime literal block other = other
held_class_holds P (Punct p ∷ []) lifetime literal block other = other
held_class_holds P (Punct p ∷ Group g ∷ rest) lifetime literal block other = other
held_class_holds P (Punct p ∷ Punct q ∷ rest) lifetime literal block other = other
held_class_holds P (Punct p ∷ Literal l ∷ rest) lifetime literal block other = other
held_class_holds P (Punct p ∷ Ident i ∷ []) lifetime literal block other =
    either P (p.mark == 39) signs.Lifetime signs.Invisible lifetime other
held_class_holds P (Punct p ∷ Ident i ∷ tree ∷ rest) lifetime literal block other = other

-- what holds of all classes of groups without delimiters holds of each such group
pub unseen : (P : SignClass → Type 0) (inside : Forest) → P signs.Visibility → P signs.Lifetime → P signs.Literal
    → P signs.Block
    → P signs.Invisible
    → P (unseen_class inside)
unseen P inside visibility lifetime literal block other =
    either P (is_visibility (innermost inside)) signs.Visibility (held_class (innermost_trees inside)) visibility
    (held_class_holds P (innermost_trees inside) lifetime literal block other)

-- the kinds of signs that a group can be
abbrev pub MayBeGroup : Sort → Type 0
MayBeGroup groups = Unit {0}
MayBeGroup pairs = Unit {0}
MayBeGroup literals = Unit {0}
MayBeGroup _ = ⊥

pub group_sort : (g : Grouped) (d : Delimiter) → MayBeGroup (sort_of (group_class d g.stream))
group_sort g delimiters.Parenthesis =
    elim (is_restriction g.stream) as (λ b. MayBeGroup (sort_of (parentheses_class b))) [ true ↦ tt | false ↦ tt ]
group_sort g delimiters.Bracket = tt
group_sort g delimiters.Brace = tt
group_sort g delimiters.None = unseen (λ c. MayBeGroup (sort_of c)) g.stream tt tt tt tt tt

-- the first sign is this one tree
pub record IsTree (trees : List TokenTree) (sign : Sign) (tree : TokenTree) : Type 0 where
  pub more : List TokenTree
  pub whole : trees ≡ tree ∷ more
  pub is : sign ≡ record { class = tree_class tree; trees = tree ∷ [] }

-- the first sign is one tree or two trees
pub data FirstTree (trees : List TokenTree) (sign : Sign) : Type 0 where
  one : (tree : TokenTree) → IsTree trees sign tree → FirstTree trees sign
  two : sort_of sign.class ≡ pairs → FirstTree trees sign

pub first_tree : (trees : List TokenTree) (sign : Sign) (after : List Sign) → signs trees ≡ sign ∷ after
    → FirstTree trees sign
first_tree [] sign after read = cc
first_tree (tree ∷ []) sign after read =
    let alone : Sign = record { class = tree_class tree; trees = tree ∷ [] } in
    let is : alone ≡ sign = cc in
    one tree (record { more = []; whole = refl; is = sym is })
first_tree (tree ∷ second ∷ rest) sign after read =
    elim (pair_class tree second) as (λ o. MayBe pairs o → pair_signs o tree second rest ≡ sign ∷ after
    → FirstTree (tree ∷ second ∷ rest) sign) [
      | None ↦ λ sort h.
          let alone : Sign = record { class = tree_class tree; trees = tree ∷ [] } in
          let is : alone ≡ sign = cc in
          one tree (record { more = second ∷ rest; whole = refl; is = sym is })
      | Some class ↦ λ sort h.
          let both : Sign = record { class = class; trees = tree ∷ second ∷ [] } in
          let is : both ≡ sign = cc in
          two (subst (λ s. sort_of s.class ≡ pairs) is sort)
    ] (pair_sort tree second) (sym (signs-cons tree second rest) ∙ read)

pub clash : (sign : Sign) (tree : TokenTree) (here there : Sort) → sign.class ≡ tree_class tree
    → sort_of sign.class ≡ here → sort_of (tree_class tree) ≡ there → here ≡ there
clash sign tree here there is sort other = sym sort ∙ ap sort_of is ∙ other

name_tree : (trees : List TokenTree) (sign : Sign) → FirstTree trees sign → sort_of sign.class ≡ names
    → (ident : Name) × IsTree trees sign (Ident ident)
name_tree trees sign (two pair) sort =
    let same : pairs ≡ names = sym pair ∙ sort in
    cc
name_tree trees sign (one (Ident i) is) sort = (i, is)
name_tree trees sign (one (Group g) is) sort =
    absurd (subst MayBeGroup (sym (ap (λ s. sort_of s.class) is.is) ∙ sort) (group_sort g g.delimiter))
name_tree trees sign (one (Punct p) is) sort =
    let same : names ≡ marks =
    clash sign (Punct p) names marks (ap (λ s. s.class) is.is) sort (mark_sort p.mark (is_joint p.spacing)) in
    cc
name_tree trees sign (one (Literal l) is) sort =
    let same : names ≡ literals = clash sign (Literal l) names literals (ap (λ s. s.class) is.is) sort refl in
    cc

group_tree : (trees : List TokenTree) (sign : Sign) → FirstTree trees sign → sort_of sign.class ≡ groups
    → (g : Grouped) × IsTree trees sign (Group g)
group_tree trees sign (two pair) sort =
    let same : pairs ≡ groups = sym pair ∙ sort in
    cc
group_tree trees sign (one (Group g) is) sort = (g, is)
group_tree trees sign (one (Ident i) is) sort =
    let same : groups ≡ names =
    clash sign (Ident i) groups names (ap (λ s. s.class) is.is) sort (name_sort i) in
    cc
group_tree trees sign (one (Punct p) is) sort =
    let same : groups ≡ marks =
    clash sign (Punct p) groups marks (ap (λ s. s.class) is.is) sort (mark_sort p.mark (is_joint p.spacing)) in
    cc
group_tree trees sign (one (Literal l) is) sort =
    let same : groups ≡ literals = clash sign (Literal l) groups literals (ap (λ s. s.class) is.is) sort refl in
    cc

-- a sign that is a keyword or a word is an identifier
pub is_identifier_sign : (trees : List TokenTree) (sign : Sign) (after : List Sign) → signs trees ≡ sign ∷ after
    → sort_of sign.class ≡ names → (ident : Name) × IsTree trees sign (Ident ident)
is_identifier_sign trees sign after read sort = name_tree trees sign (first_tree trees sign after read) sort

-- a sign with the class of a group is a group
pub is_group_sign : (trees : List TokenTree) (sign : Sign) (after : List Sign) → signs trees ≡ sign ∷ after
    → sort_of sign.class ≡ groups → (g : Grouped) × IsTree trees sign (Group g)
is_group_sign trees sign after read sort = group_tree trees sign (first_tree trees sign after read) sort
