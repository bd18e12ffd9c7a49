-- Attributes and a visibility, read by their rules.
use Rattle.std.proofs.Common.{◌≡◌, refl, sym, ◌∙◌, ap, subst, Bool, true, false, ◌&&◌, ◌||◌, List, [], ◌∷◌, length}
use Rattle.std.proofs.Common.{arith}
use Rattle.std.proofs.lemmas.Bool.{both_ways}
use Rattle.grammars.specs.First.{heads, may_begin}
use Rattle.grammars.specs.Grammar.{Mark, Nothing, Sign, Then, Either}
use Rattle.pm_stream.specs.declared.stream.TokenTree.{TokenTree}
use Rattle.pm_stream.specs.declared.stream.TokenTree.TheVariants.{Group, Ident, Literal, Punct}
use Rattle.declarations.specs.Parts.{begins_identifier, begins_mark, is_group_of, is_pub_tree}
use Rattle.declarations.specs.Reader.{Finds, classes_in}
use Rattle.declarations.specs.Signs.{BeginsWith, group_class, name_class}
use Rattle.item_tables.specs.declared.class.SignClass.{SignClass}
use Rattle.item_tables.specs.declared.class.SignClass.TheVariants as signs
use Rattle.item_tables.specs.declared.class.Keyword.TheVariants as keywords
use Rattle.item_tables.specs.declared.class.Word.TheVariants as words
use Rattle.item_tables.specs.Classes.{is}
use Rattle.declarations.specs.rules.Names.{G, Label, Name, Visible, Generics, Where, comma_list, one, key}
use Rattle.declarations.specs.rules.Parts.{attribute, closed_parameters, generics, predicate, restriction, visibility}
use Rattle.declarations.specs.rules.Parts.{visible, where_clause}
use Rattle.declarations.proofs.ClassLemmas.{same_class}
use Rattle.declarations.proofs.FunctionPartLemmas.{begins_group, begins_name}
use Rattle.declarations.proofs.PublicLemmas.{pub_is, pub_is_not, public}
use Rattle.declarations.proofs.TreeLemmas.{is_mark_sign, no_sign, or_nothing}
use Rattle.declarations.proofs.ReaderLemmas.{first_finds, heads_none, heads_sign, mark_finds, other_finds}
use Rattle.declarations.proofs.ReaderLemmas.{perhaps_stays, sign_finds, then_finds}
use Rattle.declarations.proofs.SortLemmas.{groups, is_group_sign, is_identifier_sign, marks, names, sort_of}

-- ---- attributes

attribute_heads : (cs : List SignClass) → heads attribute cs ≡ heads (one signs.Hash) cs
attribute_heads [] = refl
attribute_heads (c ∷ cs) = or_nothing (is signs.Hash c) (is signs.Brackets c)

-- an attribute begins with `#`
pub hash_heads : (trees : List TokenTree) (b : Bool) → b ≡ heads (one signs.Hash) (classes_in trees)
    → b ≡ heads attribute (classes_in trees)
hash_heads trees b h = h ∙ sym (attribute_heads (classes_in trees))

-- a sign that is a mark is the first tree
mark_first : (passes : SignClass → Bool) (trees : List TokenTree)
    → ((c : SignClass) → passes c ≡ true → sort_of c ≡ marks) → begins_mark trees ≡ false
    → heads {N = Name} {L = Label} (Sign passes) (classes_in trees) ≡ false
mark_first passes trees sort differs =
    no_sign passes trees
    (λ sign after e h.
    let at = is_mark_sign trees sign after e (sort sign.class h) in
    both_ways _ differs (ap begins_mark at.2.whole ∙ at.1))

-- a sign that is a name is the first tree
name_first : (passes : SignClass → Bool) (trees : List TokenTree)
    → ((c : SignClass) → passes c ≡ true → sort_of c ≡ names) → begins_identifier trees ≡ false
    → heads {N = Name} {L = Label} (Sign passes) (classes_in trees) ≡ false
name_first passes trees sort differs =
    no_sign passes trees
    (λ sign after e h.
    let at = is_identifier_sign trees sign after e (sort sign.class h) in
    both_ways _ differs (ap begins_identifier at.1.whole))

-- no attribute begins with a tree that is no mark
pub no_hash : (trees : List TokenTree) (b : Bool) → b ≡ begins_mark trees → b ≡ false
    → false ≡ heads attribute (classes_in trees)
no_hash trees b is_not differs =
    sym (attribute_heads (classes_in trees)
    ∙ mark_first (is signs.Hash) trees (λ c h. ap sort_of (same_class signs.Hash c h)) (sym is_not ∙ differs))

pub ruleset hashes = (hash_heads, no_hash)

-- ---- a visibility

abbrev marked_visible : G
marked_visible = Then (Mark Visible) visible

visible_first : (c : SignClass)
    → may_begin marked_visible c ≡ (is (signs.Keyword keywords.Pub) c || is signs.Visibility c)
visible_first c = go (is (signs.Keyword keywords.Pub) c) (may_begin restriction c) (is signs.Visibility c)
  where
    go : (x y z : Bool) → ((x || false && y) || z) ≡ (x || z)
    go true y z = refl
    go false y z = refl

public_first : (c : SignClass) → may_begin (Then (key keywords.Pub) restriction) c ≡ is (signs.Keyword keywords.Pub) c
public_first c = or_nothing (is (signs.Keyword keywords.Pub) c) (may_begin restriction c)

-- `pub` and perhaps a restriction
pub public_finds : (trees mid rest : List TokenTree) (class : SignClass) → BeginsWith trees class mid
    → is (signs.Keyword keywords.Pub) class ≡ true → Finds restriction mid rest
    → Finds visibility trees rest
public_finds trees mid rest class b h f =
    first_finds marked_visible Nothing trees rest
    (heads_sign marked_visible trees mid class b ∙ (visible_first class ∙ ap (λ x. x || is signs.Visibility class) h))
    (mark_finds Visible visible trees rest
    (first_finds (Then (key keywords.Pub) restriction) (one signs.Visibility) trees rest
    (heads_sign (Then (key keywords.Pub) restriction) trees mid class b ∙ (public_first class ∙ h))
    (then_finds (key keywords.Pub) restriction trees mid rest
    (sign_finds (is (signs.Keyword keywords.Pub)) trees mid class b h) f)))

-- a group without delimiters that holds a visibility
pub group_finds : (trees rest : List TokenTree) (class : SignClass) → BeginsWith trees class rest
    → is (signs.Keyword keywords.Pub) class ≡ false → is signs.Visibility class ≡ true
    → Finds visibility trees rest
group_finds trees rest class b differs h =
    first_finds marked_visible Nothing trees rest
    (heads_sign marked_visible trees rest class b
    ∙ (visible_first class ∙ (ap (λ x. x || is signs.Visibility class) differs ∙ h)))
    (mark_finds Visible visible trees rest
    (other_finds (Then (key keywords.Pub) restriction) (one signs.Visibility) trees rest
    (heads_sign (Then (key keywords.Pub) restriction) trees rest class b ∙ (public_first class ∙ differs)) refl
    (sign_finds (is signs.Visibility) trees rest class b h)))

abbrev pub_sign : G
pub_sign = key keywords.Pub

abbrev group_sign : G
group_sign = one signs.Visibility

visible_heads : (cs : List SignClass) → heads marked_visible cs ≡ (heads pub_sign cs || heads group_sign cs)
visible_heads [] = refl
visible_heads (c ∷ cs) = visible_first c

-- ---- the first tree

-- a tree that is `pub`
pub_begins : (trees rest : List TokenTree) (tree : TokenTree) → trees ≡ tree ∷ rest → is_pub_tree tree ≡ true
    → BeginsWith trees public rest
pub_begins trees rest (Ident i) whole h =
    subst (λ c. BeginsWith trees c rest) (pub_is i h) (begins_name trees rest i whole)
pub_begins trees rest (Group g) whole h = absurd (both_ways _ refl h)
pub_begins trees rest (Punct p) whole h = absurd (both_ways _ refl h)
pub_begins trees rest (Literal l) whole h = absurd (both_ways _ refl h)

pub_heads : (trees rest : List TokenTree) (tree : TokenTree) → trees ≡ tree ∷ rest → is_pub_tree tree ≡ false
    → heads pub_sign (classes_in trees) ≡ false
pub_heads trees rest tree whole h =
    no_sign (is public) trees
    (λ sign after e i.
    let at = is_identifier_sign trees sign after e (ap sort_of (same_class public sign.class i)) in
    let both : tree ∷ rest ≡ Ident at.0 ∷ at.1.more = sym whole ∙ at.1.whole in
    let same : tree ≡ Ident at.0 = cc in
    let class : sign.class ≡ name_class at.0 = ap (λ s. s.class) at.1.is in
    both_ways _ (pub_is_not at.0 (ap is_pub_tree (sym same) ∙ h)) (ap (is public) (sym class) ∙ i))

-- a tree that is a group of a class
group_begins : (class : SignClass) (trees rest : List TokenTree) (tree : TokenTree) → trees ≡ tree ∷ rest
    → is_group_of class tree ≡ true
    → BeginsWith trees class rest
group_begins class trees rest (Group g) whole h =
    subst (λ c. BeginsWith trees c rest) (same_class class (group_class g.delimiter g.stream) h)
    (begins_group trees rest g whole)
group_begins class trees rest (Ident i) whole h = absurd (both_ways _ refl h)
group_begins class trees rest (Punct p) whole h = absurd (both_ways _ refl h)
group_begins class trees rest (Literal l) whole h = absurd (both_ways _ refl h)

group_heads : (class : SignClass) (trees rest : List TokenTree) (tree : TokenTree) → sort_of class ≡ groups
    → trees ≡ tree ∷ rest → is_group_of class tree ≡ false
    → heads {N = Name} {L = Label} (Sign (is class)) (classes_in trees) ≡ false
group_heads class trees rest tree sort whole h =
    no_sign (is class) trees
    (λ sign after e i.
    let at = is_group_sign trees sign after e (ap sort_of (same_class class sign.class i) ∙ sort) in
    let both : tree ∷ rest ≡ Group at.0 ∷ at.1.more = sym whole ∙ at.1.whole in
    let same : tree ≡ Group at.0 = cc in
    let is_class : sign.class ≡ group_class at.0.delimiter at.0.stream = ap (λ s. s.class) at.1.is in
    both_ways _ (ap (is_group_of class) (sym same) ∙ h) (ap (is class) (sym is_class) ∙ i))

pub public_tree : (trees mid rest : List TokenTree) (tree : TokenTree) → trees ≡ tree ∷ mid
    → is_pub_tree tree ≡ true → Finds restriction mid rest
    → Finds visibility trees rest
public_tree trees mid rest tree whole h f =
    public_finds trees mid rest public (pub_begins trees mid tree whole h) refl f

pub group_tree : (trees rest : List TokenTree) (tree : TokenTree) → trees ≡ tree ∷ rest
    → is_group_of signs.Visibility tree ≡ true
    → Finds visibility trees rest
group_tree trees rest tree whole h =
    group_finds trees rest signs.Visibility (group_begins signs.Visibility trees rest tree whole h) refl refl

pub other_tree : (trees rest : List TokenTree) (tree : TokenTree) → trees ≡ tree ∷ rest
    → is_pub_tree tree ≡ false → is_group_of signs.Visibility tree ≡ false
    → Finds visibility trees trees
other_tree trees rest tree whole h i =
    perhaps_stays marked_visible trees
    (visible_heads (classes_in trees)
    ∙ rw (pub_heads trees rest tree whole h, group_heads signs.Visibility trees rest tree refl whole i) refl)

pub no_tree : (trees : List TokenTree) → length trees ≡ 0 → Finds visibility trees trees
no_tree [] none = perhaps_stays marked_visible [] (heads_none marked_visible [] refl)
no_tree (tree ∷ trees) none = absurd (omega arith)

pub ruleset visibilities = (public_tree, group_tree, other_tree, no_tree)

pub restriction_finds : (trees rest : List TokenTree) (tree : TokenTree) → trees ≡ tree ∷ rest
    → is_group_of signs.Restriction tree ≡ true
    → Finds restriction trees rest
restriction_finds trees rest tree whole h =
    let b = group_begins signs.Restriction trees rest tree whole h in
    first_finds (one signs.Restriction) Nothing trees rest
    (heads_sign (one signs.Restriction) trees rest signs.Restriction b)
    (sign_finds (is signs.Restriction) trees rest signs.Restriction b refl)

pub no_restriction : (trees rest : List TokenTree) (tree : TokenTree) → trees ≡ tree ∷ rest
    → is_group_of signs.Restriction tree ≡ false
    → Finds restriction trees trees
no_restriction trees rest tree whole h =
    perhaps_stays (one signs.Restriction) trees (group_heads signs.Restriction trees rest tree refl whole h)

pub restriction_none : (trees : List TokenTree) → length trees ≡ 0 → Finds restriction trees trees
restriction_none [] none =
    perhaps_stays (one signs.Restriction) [] (heads_none (one signs.Restriction) [] refl)
restriction_none (tree ∷ trees) none = absurd (omega arith)

pub ruleset restrictions = (restriction_finds, no_restriction, restriction_none)

-- ---- generic parameters and where clauses that are left out

abbrev opened_parameters : G
opened_parameters = Either (Then (one signs.Less) closed_parameters) (Then (one signs.LessJoint) closed_parameters)

abbrev opens : SignClass → Bool
opens c = is signs.Less c || is signs.LessJoint c

opens_sort : (c : SignClass) → opens c ≡ true → sort_of c ≡ marks
opens_sort signs.Less h = refl
opens_sort signs.LessJoint h = refl
opens_sort (signs.Word words.Auto) h = absurd (both_ways _ refl h)
opens_sort (signs.Word _) h = absurd (both_ways _ refl h)
opens_sort (signs.Keyword keywords.Async) h = absurd (both_ways _ refl h)
opens_sort (signs.Keyword _) h = absurd (both_ways _ refl h)
opens_sort _ h = absurd (both_ways _ refl h)

generics_heads : (cs : List SignClass)
    → heads (Then (Mark Generics) opened_parameters) cs ≡ heads {N = Name} {L = Label} (Sign opens) cs
generics_heads [] = refl
generics_heads (c ∷ cs) =
    go (is signs.Less c) (is signs.LessJoint c) (may_begin closed_parameters c)
  where
    go : (x y z : Bool) → ((x || false && z) || (y || false && z)) ≡ (x || y)
    go true y z = refl
    go false true z = refl
    go false false z = refl

pub no_generics : (trees : List TokenTree) (b : Bool) → b ≡ begins_mark trees → b ≡ false
    → Finds generics trees trees
no_generics trees b is_not differs =
    perhaps_stays (Then (Mark Generics) opened_parameters) trees
    (generics_heads (classes_in trees) ∙ mark_first opens trees opens_sort (sym is_not ∙ differs))

abbrev with_where : G
with_where = Then (Mark Where) (Then (key keywords.Where) (comma_list predicate))

where_heads : (cs : List SignClass) → heads with_where cs ≡ heads (key keywords.Where) cs
where_heads [] = refl
where_heads (c ∷ cs) = or_nothing (is (signs.Keyword keywords.Where) c) (may_begin (comma_list predicate) c)

pub no_where : (trees : List TokenTree) (b : Bool) → b ≡ begins_identifier trees → b ≡ false
    → Finds where_clause trees trees
no_where trees b is_not differs =
    perhaps_stays with_where trees
    (where_heads (classes_in trees)
    ∙ name_first (is (signs.Keyword keywords.Where)) trees
    (λ c h. ap sort_of (same_class (signs.Keyword keywords.Where) c h)) (sym is_not ∙ differs))
