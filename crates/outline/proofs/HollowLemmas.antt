-- Reading hollow trees gives the hollow trees of what is read.
use Rattle.std.proofs.Common.{◌≡◌, refl, sym, ◌∙◌, ap, ap₂, subst, ℕ, Bool, true, false, ◌&&◌, ◌||◌, List, [], ◌∷◌}
use Rattle.std.proofs.Common.{◌++◌, Option, Some, None, map, codes, option_map, is_some, if◌then◌else◌, append_assoc}
use Rattle.std.proofs.Common.{drop, length, arith}
use Rattle.std.proofs.lemmas.Bool.{false_from_ne_true}
use Rattle.std.proofs.lemmas.List.{length-append, length-map, map-append}
use Rattle.std.proofs.Math.Seq.{drop-append_seam}
use Rattle.std.proofs.lemmas.Slice.Eq.{bytes_eq-Decides}
use Rattle.std.specs.Str.{bytes_eq, encode_utf8_all}
use Rattle.lexical.specs.Token as tokens
use Rattle.lexical.specs.Token.{Token}
use Rattle.pm_token.specs.Leaf.{Name}
use Rattle.pm_token.specs.Spelling.{name_text}
use Rattle.pm_token.specs.declared.delimiters.Delimiter.{Delimiter}
use Rattle.pm_token.specs.declared.delimiters.Delimiter.TheVariants as delimiters
use Rattle.pm_stream.specs.Forest.{Forest, nil, leaf, group}
use Rattle.pm_stream.specs.Size.{is_nil}
use Rattle.pm_stream.specs.TreeSpan.{extent_of}
use Rattle.pm_stream.specs.declared.stream.Group.{Group as Grouped}
use Rattle.pm_stream.specs.declared.stream.TokenTree.{TokenTree}
use Rattle.pm_stream.specs.declared.stream.TokenTree.TheVariants.{Group, Ident, Punct, Literal}
use Rattle.token_buffer.specs.Outer.{kept_inside}
use Rattle.declarations.proofs.ReadingLemmas.{trees-append}
use Rattle.declarations.proofs.SignLemmas.{after_first_sign, trees_of-signs}
use Rattle.declarations.specs.File.{body_of, braces, in_braces, last_braces}
use Rattle.declarations.specs.Kind.{AreQualifiers, HasKind, ReadsUpTo, is_qualifier, keyword_rule, name_at, named_rule}
use Rattle.declarations.specs.Reading.{Reads, first_name}
use Rattle.declarations.specs.Signs.{Sign, classes_of, group_class, is_restriction, is_written, pair_class, restricts}
use Rattle.declarations.specs.Signs.{parentheses_class, signs, signs_after, tree_class, trees_of}
use Rattle.declarations.specs.declared.any_item.ItemKind.{ItemKind}
use Rattle.declarations.specs.declared.any_item.ItemKind.TheVariants as kinds
use Rattle.declarations.specs.rules.Names.{G}
use Rattle.declarations.specs.rules.Parts.{attributes, visibility}
use Rattle.declarations.specs.rules.Pieces.{ByRule}
use Rattle.item_tables.specs.Classes.{all_of}
use Rattle.item_tables.specs.declared.class.SignClass.{SignClass}
use Rattle.outline.specs.Hollow.{hollow, hollow_group}
use Rattle.outline.specs.Outline.{first_of, last_of}

-- ---- what restricts `pub`

abbrev named_so : Bool → List ℕ → Name
named_so raw name = record { name = name; raw = raw; span = record { lo = 0; hi = 0 } }

-- an identifier with the text `in` has the bytes of `in`
in_bytes : (raw : Bool) (name : List ℕ) → is_written (named_so raw name) (codes "in") ≡ true
    → bytes_eq (encode_utf8_all name) (codes "in") ≡ true
unfolding lib.Utf8.encode
in_bytes true name is =
    let clash : name_text (named_so true name) ≡ codes "in" =
    (bytes_eq-Decides (name_text (named_so true name)) (codes "in")).0 is in cc
in_bytes false name is =
    let same : name ≡ codes "in" = (bytes_eq-Decides name (codes "in")).0 is in
    ap (λ n. bytes_eq (encode_utf8_all n) (codes "in")) same

no_restriction : (raw : Bool) (name : List ℕ) → bytes_eq (encode_utf8_all name) (codes "in") ≡ false
    → false ≡ restricts (named_so raw name) false
no_restriction raw name other =
    let none : is_written (named_so raw name) (codes "in") ≡ false =
    false_from_ne_true _ (λ is. let clash = sym other ∙ in_bytes raw name is in cc) in
    ap (λ b. b || (false && ((is_written (named_so raw name) (codes "crate")
    || is_written (named_so raw name) (codes "self")) || is_written (named_so raw name) (codes "super")))) (sym none)

kept-restriction : (raw : Bool) (name : List ℕ) (lo hi : ℕ) (rest : Forest) (alone is : Bool) → is_nil rest ≡ alone
    → bytes_eq (encode_utf8_all name) (codes "in") ≡ is
    → is_restriction (if alone || is then leaf (tokens.Name raw name) lo hi rest else nil)
    ≡ restricts (named_so raw name) alone
kept-restriction raw name lo hi rest true is none bytes = ap (restricts (named_so raw name)) none
kept-restriction raw name lo hi rest false true none bytes = ap (restricts (named_so raw name)) none
kept-restriction raw name lo hi rest false false none bytes = no_restriction raw name bytes

kept_restriction : (inside : Forest)
    → is_restriction (kept_inside delimiters.Parenthesis inside) ≡ is_restriction inside
kept_restriction nil = refl
kept_restriction (leaf (tokens.Name raw name) lo hi rest) =
    kept-restriction raw name lo hi rest (is_nil rest) (bytes_eq (encode_utf8_all name) (codes "in")) refl refl
kept_restriction (leaf (tokens.Mark c joint) lo hi rest) = refl
kept_restriction (leaf (tokens.Literal text) lo hi rest) = refl
kept_restriction (group d lo hi inside rest) = refl

-- ---- signs

hollow_group_class : (d : Delimiter) (inside : Forest) → group_class d (kept_inside d inside) ≡ group_class d inside
hollow_group_class delimiters.Parenthesis inside = ap parentheses_class (kept_restriction inside)
hollow_group_class delimiters.Bracket inside = refl
hollow_group_class delimiters.Brace inside = refl
hollow_group_class delimiters.None inside = refl

hollow_class : (tree : TokenTree) → tree_class (hollow tree) ≡ tree_class tree
hollow_class (Group g) = hollow_group_class g.delimiter g.stream
hollow_class (Ident i) = refl
hollow_class (Punct p) = refl
hollow_class (Literal l) = refl

hollow_pair : (first second : TokenTree) → pair_class (hollow first) (hollow second) ≡ pair_class first second
hollow_pair (Group g) second = refl
hollow_pair (Ident i) second = refl
hollow_pair (Punct p) (Group g) = refl
hollow_pair (Punct p) (Ident i) = refl
hollow_pair (Punct p) (Punct q) = refl
hollow_pair (Punct p) (Literal l) = refl
hollow_pair (Literal l) second = refl

abbrev pub hollow_sign : Sign → Sign
hollow_sign sign = record { class = sign.class; trees = map hollow sign.trees }

-- the signs of two trees and others, if it is known whether the two are one sign
abbrev pairing : Option SignClass → TokenTree → TokenTree → List TokenTree → List Sign
pairing o first second rest = elim o as (λ x. List Sign) [
  | None ↦ record { class = tree_class first; trees = first ∷ [] } ∷ signs_after (Some second) rest
  | Some class ↦ record { class = class; trees = first ∷ second ∷ [] } ∷ signs_after None rest
]

hollow_after : (first : Option TokenTree) (trees : List TokenTree)
    → signs_after (option_map hollow first) (map hollow trees) ≡ map hollow_sign (signs_after first trees)
hollow_after None [] = refl
hollow_after None (tree ∷ rest) = hollow_after (Some tree) rest
hollow_after (Some first) [] =
    ap (λ (c : SignClass). record { class = c; trees = hollow first ∷ [] } ∷ []) (hollow_class first)
hollow_after (Some first) (tree ∷ rest) =
    ap (λ o. pairing o (hollow first) (hollow tree) (map hollow rest)) (hollow_pair first tree)
    ∙ elim (pair_class first tree) as (λ o. pairing o (hollow first) (hollow tree) (map hollow rest)
    ≡ map hollow_sign (pairing o first tree rest)) [
      | None ↦ ap₂ (λ (c : SignClass) (ss : List Sign). record { class = c; trees = hollow first ∷ [] } ∷ ss)
          (hollow_class first) (hollow_after (Some tree) rest)
      | Some class ↦ ap (λ (ss : List Sign). record { class = class; trees = hollow first ∷ hollow tree ∷ [] } ∷ ss)
          (hollow_after None rest)
    ]

pub hollow_signs : (trees : List TokenTree) → signs (map hollow trees) ≡ map hollow_sign (signs trees)
hollow_signs trees = hollow_after None trees

hollow_classes : (ss : List Sign) → classes_of (map hollow_sign ss) ≡ classes_of ss
hollow_classes [] = refl
hollow_classes (sign ∷ ss) = ap (λ cs. sign.class ∷ cs) (hollow_classes ss)

hollow_trees : (ss : List Sign) → trees_of (map hollow_sign ss) ≡ map hollow (trees_of ss)
hollow_trees [] = refl
hollow_trees (sign ∷ ss) =
    ap (λ ts. map hollow sign.trees ++ ts) (hollow_trees ss) ∙ sym (map-append hollow sign.trees (trees_of ss))

hollow_first_name : (trees : List TokenTree) → first_name (map hollow trees) ≡ first_name trees
hollow_first_name [] = refl
hollow_first_name (Group g ∷ trees) = refl
hollow_first_name (Ident i ∷ trees) = refl
hollow_first_name (Punct p ∷ trees) = refl
hollow_first_name (Literal l ∷ trees) = refl

hollow_name_at : (kind : ItemKind) (trees : List TokenTree) → name_at kind (map hollow trees) ≡ name_at kind trees
hollow_name_at kinds.ExternBlock trees = refl
hollow_name_at kinds.Group trees = refl
hollow_name_at kinds.Impl trees = refl
hollow_name_at kinds.Use trees = refl
hollow_name_at kinds.Constant trees = hollow_first_name trees
hollow_name_at _ trees = hollow_first_name trees

-- ---- what is read

record IsCut {A B : Type 0} (f : A → B) (xs : List A) (front back : List B) : Type 0 where
  first : List A
  rest : List A
  whole : xs ≡ first ++ rest
  first_is : map f first ≡ front
  rest_is : map f rest ≡ back

cut_map : {A B : Type 0} (f : A → B) (xs : List A) (front back : List B) → map f xs ≡ front ++ back
    → IsCut f xs front back
cut_map f xs [] back is = record { first = []; rest = xs; whole = refl; first_is = refl; rest_is = is }
cut_map f [] (b ∷ front) back is = cc
cut_map f (x ∷ xs) (b ∷ front) back is =
    let head : f x ≡ b = cc in
    let tail : map f xs ≡ front ++ back = cc in
    let more = cut_map f xs front back tail in
    record {
      first = x ∷ more.first;
      rest = more.rest;
      whole = ap (λ l. x ∷ l) more.whole;
      first_is = ap₂ (λ y l. y ∷ l) head more.first_is;
      rest_is = more.rest_is;
    }

-- the signs after some signs are the signs of their trees
signs_after_front : (front back : List Sign) (trees : List TokenTree) → signs trees ≡ front ++ back
    → back ≡ signs (trees_of back)
signs_after_front [] back trees is = sym is ∙ ap signs (sym (trees_of-signs trees) ∙ ap trees_of is)
signs_after_front (sign ∷ front) back trees is =
    let after_first = after_first_sign trees sign (front ++ back) is in signs_after_front front back after_first.rest
    after_first.read

-- a part of hollow trees that is read is made from a part of the trees that can be read
pub record IsReal (form : List SignClass → List SignClass → Type 0) (trees part rest : List TokenTree) : Type 0 where
  pub front : List TokenTree
  pub after : List TokenTree
  pub front_is : part ≡ map hollow front
  pub after_is : rest ≡ map hollow after
  pub read : Reads form trees front after

pub real : (form : List SignClass → List SignClass → Type 0) (trees part rest : List TokenTree)
    → Reads form (map hollow trees) part rest → IsReal form trees part rest
real form trees part rest reads =
    let cut = cut_map hollow_sign (signs trees) reads.piece (signs rest) (sym (hollow_signs trees) ∙ reads.read) in
    let front : List TokenTree = trees_of cut.first in
    let after : List TokenTree = trees_of cut.rest in
    let after_first : cut.rest ≡ signs after = signs_after_front cut.first cut.rest trees cut.whole in
    let front_classes : classes_of reads.piece ≡ classes_of cut.first =
    ap classes_of (sym cut.first_is) ∙ hollow_classes cut.first in
    let after_classes : classes_of (signs rest) ≡ classes_of (signs after) =
    ap classes_of (sym cut.rest_is) ∙ hollow_classes cut.rest ∙ ap classes_of after_first in
    record {
      front = front;
      after = after;
      front_is = reads.taken ∙ ap trees_of (sym cut.first_is) ∙ hollow_trees cut.first;
      after_is = sym (trees_of-signs rest) ∙ ap trees_of (sym cut.rest_is) ∙ hollow_trees cut.rest;
      read = record {
        piece = cut.first;
        read = cut.whole ∙ ap (λ ss. cut.first ++ ss) after_first;
        taken = refl;
        whole = sym (trees_of-signs trees) ∙ ap trees_of cut.whole ∙ trees-append cut.first cut.rest;
        stands = subst (λ cs. form cs (classes_of (signs after))) front_classes
            (subst (form (classes_of reads.piece)) after_classes reads.stands);
      };
    }

pub reads_hollow : (form : List SignClass → List SignClass → Type 0) (trees part rest : List TokenTree)
    → Reads form trees part rest → Reads form (map hollow trees) (map hollow part) (map hollow rest)
reads_hollow form trees part rest reads =
    let rest_classes : classes_of (signs rest) ≡ classes_of (signs (map hollow rest)) =
    sym (hollow_classes (signs rest)) ∙ ap classes_of (sym (hollow_signs rest)) in
    record {
      piece = map hollow_sign reads.piece;
      read = hollow_signs trees ∙ ap (map hollow_sign) reads.read
          ∙ map-append hollow_sign reads.piece (signs rest)
          ∙ ap (λ ss. map hollow_sign reads.piece ++ ss) (sym (hollow_signs rest));
      taken = ap (map hollow) reads.taken ∙ sym (hollow_trees reads.piece);
      whole = ap (map hollow) reads.whole ∙ map-append hollow part rest;
      stands = subst (λ cs. form cs (classes_of (signs (map hollow rest)))) (sym (hollow_classes reads.piece))
          (subst (form (classes_of reads.piece)) rest_classes reads.stands);
    }

-- ---- the kind and the name

-- the trees end with the rest
abbrev GoesTo : List TokenTree → List TokenTree → Type 0
GoesTo trees rest = (before : List TokenTree) × (trees ≡ before ++ rest)

ends_on : (trees mid rest : List TokenTree) → GoesTo trees mid → GoesTo mid rest → GoesTo trees rest
ends_on trees mid rest (a, h) (b, j) = (a ++ b, h ∙ (ap (λ ts. a ++ ts) j ∙ sym (append_assoc a b rest)))

-- trees end with others of the same length in one way
same_end : (trees a b : List TokenTree) → GoesTo trees a → GoesTo trees b → length a ≡ length b → a ≡ b
same_end trees a b (before, h) (before2, j) e =
    let size = ap length h ∙ length-append before a in
    let size2 = ap length j ∙ length-append before2 b in
    let same : length before ≡ length before2 = omega arith in
    sym (drop-append_seam before a)
    ∙ (ap (λ ts. drop (length before) ts) (sym h ∙ j)
    ∙ (ap (λ n. drop n (before2 ++ b)) same ∙ drop-append_seam before2 b))

-- what is read up to hollow trees is made from what is read up to trees
record RealUpTo (ReadsTo : List TokenTree → List TokenTree → Type 0) (trees rest : List TokenTree) : Type 0 where
  after : List TokenTree
  after_is : rest ≡ map hollow after
  read : ReadsTo trees after
  ends : GoesTo trees after

real_up_to : (g : G) (trees from rest : List TokenTree) → from ≡ map hollow trees → ReadsUpTo g from rest
    → RealUpTo (ReadsUpTo g) trees rest
real_up_to g trees from rest is (part, reads) =
    let r = real (ByRule g) trees part rest (subst (λ ts. Reads (ByRule g) ts part rest) is reads) in
    record {
      after = r.after;
      after_is = r.after_is;
      read = (r.front, r.read);
      ends = (r.front, r.read.whole);
    }

-- signs that are qualifiers
abbrev Qualify : List SignClass → List SignClass → Type 0
Qualify piece rest = all_of is_qualifier piece ≡ true

real_qualifiers : (trees from rest : List TokenTree) → from ≡ map hollow trees → AreQualifiers from rest
    → RealUpTo AreQualifiers trees rest
real_qualifiers trees from rest is q =
    let reads : Reads Qualify from (trees_of q.remains.front) rest = record {
      piece = q.remains.front;
      read = q.remains.read;
      taken = refl;
      whole = q.remains.whole;
      stands = q.are;
    } in
    let r = real Qualify trees (trees_of q.remains.front) rest
    (subst (λ ts. Reads Qualify ts (trees_of q.remains.front) rest) is reads) in
    record {
      after = r.after;
      after_is = r.after_is;
      read = record {
        remains = record {
          front = r.read.piece;
          read = r.read.read;
          whole = r.read.whole ∙ ap (λ ts. ts ++ r.after) r.read.taken;
        };
        are = r.read.stands;
      };
      ends = (r.front, r.read.whole);
    }

-- trees end in one way with others that are as many. The others are compared without most of what is in their groups
same_after : (trees after rest : List TokenTree) → GoesTo trees after → GoesTo trees rest
    → map hollow rest ≡ map hollow after → after ≡ rest
same_after trees after rest ends ends2 is =
    same_end trees after rest ends ends2
    (sym (length-map after hollow) ∙ (ap length (sym is) ∙ length-map rest hollow))

-- an item of hollow trees has the kind and the name of the item that they are made from
pub real_kind : (form : List SignClass → List SignClass → Type 0) (trees part rest : List TokenTree) (kind : ItemKind)
    (name : Option Name) → Reads form trees part rest → HasKind (map hollow trees) (map hollow rest) kind name
    → HasKind trees rest kind name
real_kind form trees part rest kind name reads h =
    let a = real_up_to attributes trees (map hollow trees) h.from_visibility refl h.attributes in
    let v = real_up_to visibility a.after h.from_visibility h.from_qualifiers a.after_is h.visibility in
    let q = real_qualifiers v.after h.from_qualifiers h.from_keyword v.after_is h.qualifiers in
    let k = real_up_to (keyword_rule kind) q.after h.from_keyword h.from_name q.after_is h.keyword in
    let i = real_up_to (named_rule kind) k.after h.from_name (map hollow rest) k.after_is h.item in
    let ends = ends_on trees a.after i.after a.ends (ends_on a.after v.after i.after v.ends
    (ends_on v.after q.after i.after q.ends (ends_on q.after k.after i.after k.ends i.ends))) in
    let same : i.after ≡ rest = same_after trees i.after rest ends (part, reads.whole) i.after_is in
    record {
      from_visibility = a.after;
      from_qualifiers = v.after;
      from_keyword = q.after;
      from_name = k.after;
      attributes = a.read;
      visibility = v.read;
      qualifiers = q.read;
      keyword = k.read;
      item = subst (ReadsUpTo (named_rule kind) k.after) {x = i.after} same i.read;
      is_name = h.is_name ∙ (ap (name_at kind) k.after_is ∙ hollow_name_at kind k.after);
    }

-- ---- the braces that hold items

hollow_in_braces : (d : Delimiter) (g : Grouped)
    → in_braces d (hollow_group g) ≡ option_map hollow_group (in_braces d g)
hollow_in_braces delimiters.Parenthesis g = refl
hollow_in_braces delimiters.Bracket g = refl
hollow_in_braces delimiters.Brace g = refl
hollow_in_braces delimiters.None g = refl

hollow_braces : (tree : TokenTree) → braces (hollow tree) ≡ option_map hollow_group (braces tree)
hollow_braces (Group g) = hollow_in_braces g.delimiter g
hollow_braces (Ident i) = refl
hollow_braces (Punct p) = refl
hollow_braces (Literal l) = refl

hollow_last_braces : (trees : List TokenTree)
    → last_braces (map hollow trees) ≡ option_map hollow_group (last_braces trees)
hollow_last_braces [] = refl
hollow_last_braces (tree ∷ []) = hollow_braces tree
hollow_last_braces (tree ∷ next ∷ trees) = hollow_last_braces (next ∷ trees)

hollow_body : (kind : ItemKind) (trees : List TokenTree)
    → body_of kind (map hollow trees) ≡ option_map hollow_group (body_of kind trees)
hollow_body kinds.Module trees = hollow_last_braces trees
hollow_body kinds.Trait trees = hollow_last_braces trees
hollow_body kinds.Impl trees = hollow_last_braces trees
hollow_body kinds.ExternBlock trees = hollow_last_braces trees
hollow_body kinds.Constant trees = refl
hollow_body kinds.Enum trees = refl
hollow_body kinds.ExternCrate trees = refl
hollow_body kinds.Function trees = refl
hollow_body kinds.Group trees = refl
hollow_body kinds.Macro trees = refl
hollow_body kinds.MacroCall trees = refl
hollow_body kinds.Static trees = refl
hollow_body kinds.Struct trees = refl
hollow_body kinds.TraitAlias trees = refl
hollow_body kinds.TypeAlias trees = refl
hollow_body kinds.Union trees = refl
hollow_body kinds.Use trees = refl

some_hollow : (o : Option Grouped) → is_some (option_map hollow_group o) ≡ is_some o
some_hollow None = refl
some_hollow (Some g) = refl

pub has_body : (kind : ItemKind) (trees : List TokenTree)
    → is_some (body_of kind (map hollow trees)) ≡ is_some (body_of kind trees)
has_body kind trees = ap is_some (hollow_body kind trees) ∙ some_hollow (body_of kind trees)

in_braces_only : (d : Delimiter) (g h : Grouped) → in_braces d g ≡ Some h → g ≡ h
in_braces_only delimiters.Parenthesis g h is = cc
in_braces_only delimiters.Bracket g h is = cc
in_braces_only delimiters.Brace g h is = cc
in_braces_only delimiters.None g h is = cc

braces_only : (tree : TokenTree) (g : Grouped) → braces tree ≡ Some g → tree ≡ Group g
braces_only (Group h) g is = ap Group (in_braces_only h.delimiter h g is)
braces_only (Ident i) g is = cc
braces_only (Punct p) g is = cc
braces_only (Literal l) g is = cc

abbrev EndsWith : List TokenTree → TokenTree → Type 0
EndsWith trees tree = (front : List TokenTree) × (trees ≡ front ++ tree ∷ [])

ends_longer : (first : TokenTree) (trees : List TokenTree) (tree : TokenTree) → EndsWith trees tree
    → EndsWith (first ∷ trees) tree
ends_longer first trees tree ends = (first ∷ ends.0, ap (λ ts. first ∷ ts) ends.1)

last_is : (trees : List TokenTree) (g : Grouped) → last_braces trees ≡ Some g → EndsWith trees (Group g)
last_is [] g is = cc
last_is (tree ∷ []) g is = ([], ap (λ t. t ∷ []) (braces_only tree g is))
last_is (tree ∷ next ∷ trees) g is = ends_longer tree (next ∷ trees) (Group g) (last_is (next ∷ trees) g is)

-- the braces that hold items are the last tree of the item
pub body_is_last : (kind : ItemKind) (trees : List TokenTree) (g : Grouped) → body_of kind trees ≡ Some g
    → (front : List TokenTree) × (trees ≡ front ++ Group g ∷ [])
body_is_last kinds.Module trees g is = last_is trees g is
body_is_last kinds.Trait trees g is = last_is trees g is
body_is_last kinds.Impl trees g is = last_is trees g is
body_is_last kinds.ExternBlock trees g is = last_is trees g is
body_is_last kinds.Constant trees g is = cc
body_is_last kinds.Enum trees g is = cc
body_is_last kinds.ExternCrate trees g is = cc
body_is_last kinds.Function trees g is = cc
body_is_last kinds.Group trees g is = cc
body_is_last kinds.Macro trees g is = cc
body_is_last kinds.MacroCall trees g is = cc
body_is_last kinds.Static trees g is = cc
body_is_last kinds.Struct trees g is = cc
body_is_last kinds.TraitAlias trees g is = cc
body_is_last kinds.TypeAlias trees g is = cc
body_is_last kinds.Union trees g is = cc
body_is_last kinds.Use trees g is = cc

-- ---- the spans of trees

hollow_extent : (tree : TokenTree) → extent_of (hollow tree) ≡ extent_of tree
hollow_extent (Group g) = refl
hollow_extent (Ident i) = refl
hollow_extent (Punct p) = refl
hollow_extent (Literal l) = refl

pub hollow_first_of : (trees : List TokenTree) → first_of (map hollow trees) ≡ first_of trees
hollow_first_of [] = refl
hollow_first_of (tree ∷ trees) = hollow_extent tree

pub hollow_last_of : (trees : List TokenTree) → last_of (map hollow trees) ≡ last_of trees
hollow_last_of [] = refl
hollow_last_of (tree ∷ []) = hollow_extent tree
hollow_last_of (tree ∷ last ∷ []) = hollow_extent tree
hollow_last_of (tree ∷ next ∷ last ∷ trees) = hollow_last_of (next ∷ last ∷ trees)
