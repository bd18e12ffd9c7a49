-- What is read from the levels of a text, whose groups are almost all empty.
use Rattle.std.proofs.Common.{◌≡◌, refl, sym, ◌∙◌, ap, ap₂, subst, ℕ, suc, ◌+◌, ◌-◌, ◌<◌, ◌≤◌, arith, inl, inr}
use Rattle.std.proofs.Common.{Bool, true, false, List, [], ◌∷◌, ◌++◌, Option, Some, None}
use Rattle.std.proofs.Common.{MatchOption, length, map, drop}
use Rattle.std.proofs.Common.{Result, Ok, Err, IfOk, IfErr}
use Rattle.std.proofs.Common.{append_assoc, append-nil, option_map, is_some, string_bytes}
use Rattle.std.proofs.Math.ListN.{drop_of_length-le}
use Rattle.std.proofs.lemmas.List.{drop-drop, drop-map, drop_at, length-append, length-drop, length-map}
use Rattle.std.specs.Borrow.{Bor}
use Rattle.std.specs.Option.{option_to_list}
use Rattle.std.specs.Prelude.{option_copied}
use Rattle.lexical.specs.Token as tokens
use Rattle.pm_span.specs.Files.{Files, new_map, with_file}
use Rattle.pm_token.specs.Leaf.{Name}
use Rattle.pm_token.specs.declared.delimiters.Delimiter.{Delimiter}
use Rattle.pm_stream.specs.Forest.{Forest, nil, leaf, group}
use Rattle.pm_stream.specs.Size.{is_nil}
use Rattle.pm_stream.specs.Trees.{forest}
use Rattle.pm_stream.specs.declared.stream.Group.{Group as Grouped}
use Rattle.pm_stream.specs.declared.stream.TokenTree.{TokenTree}
use Rattle.pm_stream.specs.declared.stream.TokenTree.TheVariants.{Group}
use Rattle.token_buffer.specs.Outer.{kept_inside, outer}
use Rattle.token_buffer.specs.Reads.{Begins, BeginsWithGroup, group_first, left}
use Rattle.token_buffer.specs.declared.cursor.Cursor.{Cursor}
use Rattle.token_buffer.specs.declared.cursor.TokenText.{TokenText}
use Rattle.token_buffer.specs.declared.cursor.TokenText.TheVariants as texts
use Rattle.declarations.specs.File.{HasKindOf, body_of}
use Rattle.declarations.specs.Forms.{AreAttributes, AreInnerAttributes, IsAnyItem}
use Rattle.declarations.specs.Kind.{HasKind}
use Rattle.declarations.specs.Reading.{Reads}
use Rattle.declarations.specs.declared.any_item.AnyItem.{AnyItem}
use Rattle.declarations.specs.declared.any_item.ItemKind.{ItemKind}
use Rattle.outline.specs.Answer.{lines_of, name_in, place_in, shown_line, through}
use Rattle.outline.specs.Hollow.{hollow, trees_in}
use Rattle.outline.specs.Levels.{BeginsWith, IsStopped, Takes, level_left, trees_left}
use Rattle.outline.specs.Line.{line_of, one_line}
use Rattle.outline.specs.Outline.{AreInside, AreTrees, BeginsWithItem, Entry, Outline, IsTreesOutline, entries_of}
use Rattle.outline.specs.Outline.{entry_of, is_listed, lists, entry_of_value}
use Rattle.outline.specs.declared.entries.Entry.{Entry as Given}
use Rattle.outline.specs.declared.level.Level.{Level}
use Rattle.outline.specs.declared.levels.ReadItem.{ReadItem}
use Rattle.outline.specs.declared.options.Form.{Form}
use Rattle.outline.proofs.HollowLemmas.{body_is_last, has_body, hollow_first_of, hollow_last_of, real, real_kind}
use Rattle.outline.proofs.HollowLemmas.{reads_hollow}
use Rattle.outline.proofs.OnlyLemmas.{Requires, closed_stops, item_stops, same_trees, trees_in-forest}
use Rattle.outline.proofs.OutlineLemmas.{Completes, completes_all, completes_alone, completes_item, stack}
use Rattle.outline.proofs.OutlineLemmas.{kind_and_name_copied}
use Rattle.declarations.proofs.StartLemmas.{any_item_starts}
use Rattle.declarations.proofs.RuleFormLemmas.{rule_fewer}
use Rattle.declarations.specs.rules.Items.{any_item}

-- ---- the trees of a stream

pub forest-trees_in : (f : Forest) → forest (trees_in f) ≡ f
forest-trees_in nil = refl
forest-trees_in (leaf (tokens.Name raw name) lo hi rest) = ap (leaf (tokens.Name raw name) lo hi) (forest-trees_in rest)
forest-trees_in (leaf (tokens.Mark c true) lo hi rest) = ap (leaf (tokens.Mark c true) lo hi) (forest-trees_in rest)
forest-trees_in (leaf (tokens.Mark c false) lo hi rest) = ap (leaf (tokens.Mark c false) lo hi) (forest-trees_in rest)
forest-trees_in (leaf (tokens.Literal text) lo hi rest) = ap (leaf (tokens.Literal text) lo hi) (forest-trees_in rest)
forest-trees_in (group d lo hi inside rest) = ap (group d lo hi inside) (forest-trees_in rest)

forest_hollow : (f : Forest) → forest (map hollow (trees_in f)) ≡ outer f
forest_hollow nil = refl
forest_hollow (leaf (tokens.Name raw name) lo hi rest) = ap (leaf (tokens.Name raw name) lo hi) (forest_hollow rest)
forest_hollow (leaf (tokens.Mark c true) lo hi rest) = ap (leaf (tokens.Mark c true) lo hi) (forest_hollow rest)
forest_hollow (leaf (tokens.Mark c false) lo hi rest) = ap (leaf (tokens.Mark c false) lo hi) (forest_hollow rest)
forest_hollow (leaf (tokens.Literal text) lo hi rest) = ap (leaf (tokens.Literal text) lo hi) (forest_hollow rest)
forest_hollow (group d lo hi inside rest) =
    ap (group d lo hi (kept_inside d inside)) (forest_hollow rest)

-- the trees that a cursor returns are hollow
pub outer_are : (items : List TokenTree) (f : Forest) → forest items ≡ outer f → items ≡ map hollow (trees_in f)
outer_are items f is = same_trees items (map hollow (trees_in f)) (is ∙ sym (forest_hollow f))

-- ---- what is left after some trees

left_after : (first : TokenText) (here rest : Cursor) → Begins first here rest
    → (tree : TokenTree) × (trees_left here ≡ tree ∷ trees_left rest)
left_after (texts.Ident name) here rest (lo, hi, is) = (_, ap trees_in is)
left_after (texts.Punct mark spacing) here rest (lo, hi, is) = (_, ap trees_in is)
left_after (texts.Literal literal) here rest (lo, hi, is) = (_, ap trees_in is)
left_after (texts.Group delimiter inside) here rest (lo, hi, is) = (_, ap trees_in is)

-- one more tree is skipped
pub past_one : (first : TokenText) (here rest : Cursor) (all : List TokenTree) (n : ℕ) → Begins first here rest
    → trees_left here ≡ drop n all → trees_left rest ≡ drop (n + 1) all
past_one first here rest all n begins is =
    let after = left_after first here rest begins in
    sym (ap (drop 1) (sym is ∙ after.1)) ∙ drop-drop 1 n all

-- no tree is left, so skipping more changes nothing
pub past_all : (here : Cursor) (all : List TokenTree) (n count : ℕ) → left here ≡ nil → trees_left here ≡ drop n all
    → n < count → trees_left here ≡ drop count all
past_all here all n count none is more =
    let nothing : trees_left here ≡ [] = ap trees_in none in
    let size : length all - n ≡ 0 = sym (length-drop n all) ∙ ap length (sym is ∙ nothing) in
    nothing ∙ drop_none all count (omega arith)
  where
    drop_none : (xs : List TokenTree) (k : ℕ) → length xs ≤ k → [] ≡ drop k xs
    drop_none xs k fits = sym (drop_of_length-le xs fits)

-- the last of some trees is skipped
pub past_last : (all last rest : List TokenTree) (count : ℕ) → 0 < count → last ≡ drop (count - 1) all
    → rest ≡ drop 1 last → rest ≡ drop count all
past_last all last rest count some is passed =
    let size : (count - 1) + 1 ≡ count = omega arith in
    passed ∙ ap (drop 1) is ∙ drop-drop 1 (count - 1) all ∙ ap (λ n. drop n all) size

-- ---- a level

pub even_start : (items all : List TokenTree) (rest : List TokenTree) (at : ℕ) → items ≡ map hollow all
    → rest ≡ drop at all → drop at items ≡ map hollow rest
even_start items all rest at are is = ap (drop at) are ∙ drop-map hollow at all ∙ ap (map hollow) (sym is)

pub even_more : (items old new : List TokenTree) (at count : ℕ) → drop at items ≡ map hollow old
    → new ≡ drop count old → drop (at + count) items ≡ map hollow new
even_more items old new at count even is =
    sym (drop-drop count at items) ∙ even_start (drop at items) old new count even is

-- the trees after a part are those after as many trees as it has
after_part : (all part rest : List TokenTree) (count : ℕ) → all ≡ part ++ rest → count ≡ length part
    → drop count all ≡ rest
after_part all part rest count whole counted = ap (drop count) whole ∙ drop_at part rest count (sym counted)

pub start_reads : (items all inner after here : List TokenTree) (at : ℕ) → items ≡ map hollow all
    → Reads AreInnerAttributes items inner after → at ≡ length inner → here ≡ drop at all
    → (front : List TokenTree) × Reads AreInnerAttributes all front here
start_reads items all inner after here at are reads counted is =
    let found = real AreInnerAttributes all inner after
    (subst (λ ts. Reads AreInnerAttributes ts inner after) are reads) in
    let size : at ≡ length found.front =
    counted ∙ ap length found.front_is ∙ length-map found.front hollow in
    let same : found.after ≡ here = sym (after_part all found.front found.after at found.read.whole size) ∙ sym is in
    (found.front, subst (λ ts. Reads AreInnerAttributes all found.front ts) same found.read)

pub start_never : (items all : List TokenTree) → items ≡ map hollow all
    → ((inner after : List TokenTree) → Reads AreInnerAttributes items inner after → ⊥)
    → (inner after : List TokenTree) → Reads AreInnerAttributes all inner after → ⊥
start_never items all are never inner after reads =
    never (map hollow inner) (map hollow after)
    (subst (λ ts. Reads AreInnerAttributes ts (map hollow inner) (map hollow after)) (sym are)
    (reads_hollow AreInnerAttributes all inner after reads))

-- trees are left, so as many trees as have been read are in the list
pub at_within : (items all : List TokenTree) (at : ℕ) → drop at items ≡ map hollow all → (all ≡ [] → ⊥)
    → at ≤ length items
at_within items [] at even some = absurd (some refl)
at_within items (tree ∷ all) at even some =
    let size : length items - at ≡ suc (length all) =
    sym (length-drop at items) ∙ ap length even ∙ length-map (tree ∷ all) hollow in
    omega arith

-- ---- the group that comes first

no_group : (f : Forest) (g : Grouped) (rest : List TokenTree) → trees_in f ≡ Group g ∷ rest → group_first f ≡ None → ⊥
no_group nil g rest is none = cc
no_group (leaf (tokens.Name raw name) lo hi f) g rest is none = cc
no_group (leaf (tokens.Mark c joint) lo hi f) g rest is none = cc
no_group (leaf (tokens.Literal text) lo hi f) g rest is none = cc
no_group (group d lo hi inside f) g rest is none = cc

pub group_comes : (body : Cursor) → ((g : Grouped) × BeginsWith body g) → group_first (left body) ≡ None → ⊥
group_comes body (g, (rest, is)) none = no_group (left body) g rest is none

same_inside : (f : Forest) (d : Delimiter) (lo hi : ℕ) (inside after : Forest) (g : Grouped) (rest : List TokenTree)
    → f ≡ group d lo hi inside after → trees_in f ≡ Group g ∷ rest → g.stream ≡ inside
same_inside f d lo hi inside after g rest is begins =
    let both : Group (record { delimiter = d; stream = inside; span = record { lo = lo; hi = hi } }) ∷ trees_in after
    ≡ Group g ∷ rest = ap trees_in (sym is) ∙ begins in
    let one : record { delimiter = d; stream = inside; span = record { lo = lo; hi = hi } } ≡ g = cc in
    ap (λ (h : Grouped). h.stream) (sym one)

pub inside_trees : (d : Delimiter) (body inside after : Cursor) (items : List TokenTree)
    → BeginsWithGroup d body inside after
    → ((inner : List TokenTree) × Reads AreInnerAttributes (trees_left inside) inner items)
    → (g : Grouped) → BeginsWith body g → AreTrees g.stream items
inside_trees d body inside after items (lo, hi, is) (inner, reads) g (rest, begins) = record {
  all = trees_left inside;
  inner = inner;
  held = forest-trees_in (left inside)
      ∙ sym (same_inside (left body) d lo hi (left inside) (left after) g rest is begins);
  read = reads;
}

pub inside_none : (d : Delimiter) (body inside after : Cursor) → BeginsWithGroup d body inside after
    → ((inner items : List TokenTree) → Reads AreInnerAttributes (trees_left inside) inner items → ⊥)
    → (g : Grouped) → BeginsWith body g → (items : List TokenTree) → AreTrees g.stream items → ⊥
inside_none d body inside after (lo, hi, is) never g (rest, begins) items are =
    let same : are.all ≡ trees_left inside =
    sym (trees_in-forest are.all)
    ∙ ap trees_in (are.held ∙ same_inside (left body) d lo hi (left inside) (left after) g rest is begins) in
    never are.inner items (subst (λ ts. Reads AreInnerAttributes ts are.inner items) same are.read)

-- ---- an item

-- the position and the text of a header are the same for hollow trees
hollow_name_in : (text : List ℕ) (name : Option Name) (header : List TokenTree)
    → name_in text name (map hollow header) ≡ name_in text name header
hollow_name_in text None header =
    ap₂ (λ from to. one_line false (through text from to)) (hollow_first_of header) (hollow_last_of header)
hollow_name_in text (Some name) header = refl

hollow_shown : (text : List ℕ) (depth : ℕ) (kind : ItemKind) (name : Option Name) (header : List TokenTree)
    → shown_line text (entry_of depth kind name (map hollow header)) ≡ shown_line text (entry_of depth kind name header)
hollow_shown text depth kind name header =
    ap₂ (λ named start. record {
      depth = depth;
      kind = kind;
      named = is_some name;
      name = named;
      start = start;
    }) (hollow_name_in text name header) (ap (place_in text) (hollow_first_of header))

hollow_line : (form : Form) (path text : List ℕ) (is : Bool) (depth : ℕ) (kind : ItemKind) (name : Option Name)
    (header : List TokenTree)
    → lines_of form path text (lists is (entry_of depth kind name (map hollow header)))
    ≡ lines_of form path text (lists is (entry_of depth kind name header))
hollow_line form path text true depth kind name header =
    ap (λ x. option_to_list (line_of form path x) ++ []) (hollow_shown text depth kind name header)
hollow_line form path text false depth kind name header = refl

pub takes : (files : Files) (form : Form) (path : List ℕ) (depth : ℕ) (items rest all : List TokenTree) (it : AnyItem)
    (entry : Given) (step : ReadItem) → items ≡ map hollow all → Reads IsAnyItem items it.trees.now rest
    → HasKindOf items rest it
    → ((attributes : List TokenTree) × Reads AreAttributes it.trees.now attributes entry.header.now
    × (entry_of_value entry ≡ entry_of depth it.kind (option_copied it.name) entry.header.now))
    → ((text : List ℕ) → files ≡ with_file new_map text → option_to_list (option_map string_bytes step.line)
    ≡ lines_of form path text (lists (is_listed entry.kind (option_copied entry.name)) (entry_of_value entry)))
    → step.count ≡ length it.trees.now → step.has_body ≡ is_some (body_of it.kind it.trees.now)
    → Takes files form path depth all step
takes files form path depth items rest all it entry step are reads kind_and_name (attributes, front, is) line counted
    body =
    let name = option_copied it.name in
    let found = real IsAnyItem all it.trees.now rest (subst (λ ts. Reads IsAnyItem ts it.trees.now rest) are reads) in
    let head = real AreAttributes found.front attributes entry.header.now
    (subst (λ ts. Reads AreAttributes ts attributes entry.header.now) found.front_is front) in
    let tells : HasKind (map hollow all) (map hollow found.after) it.kind name =
    subst (λ ts. HasKind (map hollow all) ts it.kind name) found.after_is
    (subst (λ ts. HasKind ts rest it.kind name) are (kind_and_name_copied items rest it kind_and_name)) in
    let size : step.count ≡ length found.front =
    counted ∙ ap length found.front_is ∙ length-map found.front hollow in
    let entry_is : entry_of_value entry ≡ entry_of depth it.kind name (map hollow head.after) =
    is ∙ ap (entry_of depth it.kind name) head.after_is in
    let fewer = rule_fewer any_item any_item_starts all found.front found.after refl found.read in
    let sizes : length all ≡ length found.front + length found.after =
    ap length found.read.whole ∙ length-append found.front found.after in
    record {
      part = found.front;
      rest = found.after;
      kind = it.kind;
      name = name;
      attributes = head.front;
      header = head.after;
      read = found.read;
      kind_and_name = real_kind IsAnyItem all found.front found.after it.kind name found.read tells;
      front = head.read;
      counted = size;
      some = omega (arith, size, sizes, fewer);
      body = body ∙ ap (λ ts. is_some (body_of it.kind ts)) found.front_is ∙ has_body it.kind found.front;
      line = λ text of. line text of
          ∙ ap (λ (e : Entry). lines_of form path text (lists (is_listed e.kind e.name) e)) entry_is
          ∙ hollow_line form path text (is_listed it.kind name) depth it.kind name head.after;
    }

pub stops_reading : (items all : List TokenTree) → items ≡ map hollow all
    → ((part rest : List TokenTree) → Reads IsAnyItem items part rest → ⊥) → IsStopped all
stops_reading items all are never = inl (λ part rest reads.
    never (map hollow part) (map hollow rest)
    (subst (λ ts. Reads IsAnyItem ts (map hollow part) (map hollow rest)) (sym are)
    (reads_hollow IsAnyItem all part rest reads)))

pub stops_entry : (items rest all : List TokenTree) (it : AnyItem) → items ≡ map hollow all
    → Reads IsAnyItem items it.trees.now rest → HasKindOf items rest it
    → ((attributes header : List TokenTree) → Reads AreAttributes it.trees.now attributes header → ⊥)
    → IsStopped all
stops_entry items rest all it are reads kind_and_name never =
    let name = option_copied it.name in
    let found = real IsAnyItem all it.trees.now rest (subst (λ ts. Reads IsAnyItem ts it.trees.now rest) are reads) in
    let tells : HasKind (map hollow all) (map hollow found.after) it.kind name =
    subst (λ ts. HasKind (map hollow all) ts it.kind name) found.after_is
    (subst (λ ts. HasKind ts rest it.kind name) are (kind_and_name_copied items rest it kind_and_name)) in
    inr (record {
      part = found.front;
      rest = found.after;
      kind = it.kind;
      name = name;
      read = found.read;
      kind_and_name = real_kind IsAnyItem all found.front found.after it.kind name found.read tells;
      never = λ attributes header inside front holds.
          never (map hollow attributes) (map hollow header)
          (subst (λ ts. Reads AreAttributes ts (map hollow attributes) (map hollow header)) (sym found.front_is)
          (reads_hollow AreAttributes found.front attributes header front));
    })

-- ---- what a step leaves

pub takes_within : (files : Files) (form : Form) (path : List ℕ) (depth : ℕ) (all items : List TokenTree) (at : ℕ)
    (step : ReadItem) → Takes files form path depth all step → drop at items ≡ map hollow all
    → at + step.count ≤ length items
takes_within files form path depth all items at step takes even =
    let size : length items - at ≡ length all =
    sym (length-drop at items) ∙ ap length even ∙ length-map all hollow in
    let sizes : length all ≡ length takes.part + length takes.rest =
    ap length takes.read.whole ∙ length-append takes.part takes.rest in
    omega (arith, takes.counted, takes.some)

pub begins_taken : (files : Files) (form : Form) (path : List ℕ) (depth : ℕ) (all items after : List TokenTree)
    (step : ReadItem) (takes : Takes files form path depth all step) → AreInside (body_of takes.kind takes.part) items
    → after ≡ drop step.count all → BeginsWithItem all takes.kind takes.name takes.header items after
begins_taken files form path depth all items after step takes inside is =
    let same : takes.rest ≡ after =
    sym (after_part all takes.part takes.rest step.count takes.read.whole takes.counted) ∙ sym is in
    record {
      part = takes.part;
      attributes = takes.attributes;
      read = subst (Reads IsAnyItem all takes.part) same takes.read;
      kind_and_name = subst (λ ts. HasKind all ts takes.kind takes.name) same takes.kind_and_name;
      front = takes.front;
      inside = inside;
    }

none_inside : (body : Option Grouped) → is_some body ≡ false → AreInside body []
none_inside None is = refl
none_inside (Some g) is = cc

pub no_body : (files : Files) (form : Form) (path : List ℕ) (depth : ℕ) (all : List TokenTree) (step : ReadItem)
    (takes : Takes files form path depth all step) → step.has_body ≡ false
    → AreInside (body_of takes.kind takes.part) []
no_body files form path depth all step takes none =
    none_inside (body_of takes.kind takes.part) (sym takes.body ∙ none)

some_group : (body : Option Grouped) → is_some body ≡ true → (g : Grouped) × (body ≡ Some g)
some_group None is = cc
some_group (Some g) is = (g, refl)

-- at the last tree of an item, the braces of the item are the first tree that is left
pub record HasBody (kind : ItemKind) (part : List TokenTree) (last : Cursor) : Type 0 where
  pub group : Grouped
  pub is : body_of kind part ≡ Some group
  pub begins : BeginsWith last group

pub body_comes : (files : Files) (form : Form) (path : List ℕ) (depth : ℕ) (all : List TokenTree) (step : ReadItem)
    (last : Cursor) (takes : Takes files form path depth all step) → step.has_body ≡ true
    → trees_left last ≡ drop (step.count - 1) all → HasBody takes.kind takes.part last
body_comes files form path depth all step last takes has is =
    let found = some_group (body_of takes.kind takes.part) (sym takes.body ∙ has) in
    let ends = body_is_last takes.kind takes.part found.0 found.1 in
    let size : step.count ≡ length ends.0 + 1 =
    takes.counted ∙ ap length ends.1 ∙ length-append ends.0 (Group found.0 ∷ []) in
    let before : length ends.0 ≡ step.count - 1 = omega (arith, size) in
    let whole : all ≡ ends.0 ++ (Group found.0 ∷ takes.rest) =
    takes.read.whole ∙ ap (λ ts. ts ++ takes.rest) ends.1
    ∙ append_assoc ends.0 (Group found.0 ∷ []) takes.rest in
    record {
      group = found.0;
      is = found.1;
      begins = (
        takes.rest,
        is ∙ ap (drop (step.count - 1)) whole
            ∙ drop_at ends.0 (Group found.0 ∷ takes.rest) (step.count - 1) before,
      );
    }

pub holds_body : (body : Option Grouped) (g : Grouped) (items : List TokenTree) → body ≡ Some g
    → AreTrees g.stream items → AreInside body items
holds_body body g items is are = subst (λ o. AreInside o items) (sym is) are

pub never_body : (body : Option Grouped) (g : Grouped) → body ≡ Some g
    → ((items : List TokenTree) → AreTrees g.stream items → ⊥) → (items : List TokenTree) → AreInside body items → ⊥
never_body body g is never items inside = never items (subst (λ o. AreInside o items) is inside)

-- ---- lines

pub lines_of-append : (form : Form) (path text : List ℕ) (xs ys : List Entry)
    → lines_of form path text (xs ++ ys) ≡ lines_of form path text xs ++ lines_of form path text ys
lines_of-append form path text [] ys = refl
lines_of-append form path text (x ∷ xs) ys =
    let line = option_to_list (line_of form path (shown_line text x)) in
    ap (λ ls. line ++ ls) (lines_of-append form path text xs ys)
    ∙ sym (append_assoc line (lines_of form path text xs) (lines_of form path text ys))

-- the lines are those of declarations that, with those of the trees that are left, are all declarations
pub record CompletesLines (form : Form) (path text : List ℕ) (trees : List TokenTree) (lines : List (List ℕ))
    (levels : List (List TokenTree)) : Type 0 where
  pub found : List Entry
  pub are : lines ≡ lines_of form path text found
  pub all : Completes trees found levels

-- if no tree is left, the lines are those of all declarations
pub lines_all : (form : Form) (path text : List ℕ) (trees : List TokenTree) (lines : List (List ℕ))
    (levels : List Level) → levels ≡ [] → CompletesLines form path text trees lines (stack level_left levels)
    → (whole : Outline) × IsTreesOutline trees whole × (lines ≡ lines_of form path text (entries_of whole))
lines_all form path text trees lines levels none h =
    let all = completes_all level_left trees h.found levels none h.all in
    (all.0, all.1, h.are ∙ ap (lines_of form path text) all.2)

-- the line of a step's item comes after the lines before it
lines_put : (files : Files) (form : Form) (path text : List ℕ) (lines more : List (List ℕ)) (found : List Entry)
    (all : List TokenTree) (step : ReadItem) (depth size : ℕ) (takes : Takes files form path depth all step)
    → files ≡ with_file new_map text → depth ≡ size → lines ≡ lines_of form path text found
    → more ≡ lines ++ option_to_list (option_map string_bytes step.line)
    → more ≡ lines_of form path text
    (found ++ lists (is_listed takes.kind takes.name) (entry_of size takes.kind takes.name takes.header))
lines_put files form path text lines more found all step depth size takes of deep are put =
    let entries : ℕ → List Entry =
    λ n. lists (is_listed takes.kind takes.name) (entry_of n takes.kind takes.name takes.header) in
    put ∙ ap₂ (λ (xs ys : List (List ℕ)). xs ++ ys) are (takes.line text of)
    ∙ sym (lines_of-append form path text found (entries depth))
    ∙ ap (λ n. lines_of form path text (found ++ entries n)) deep

pub lines_item : (files : Files) (form : Form) (path text : List ℕ) (trees : List TokenTree)
    (lines more : List (List ℕ)) (old new inside : Level) (levels less once twice : List Level) (step : ReadItem)
    (depth : ℕ) (takes : Takes files form path depth (level_left old) step) → files ≡ with_file new_map text
    → CompletesLines form path text trees lines (stack level_left levels) → levels ≡ less ++ old ∷ []
    → depth ≡ length less → more ≡ lines ++ option_to_list (option_map string_bytes step.line)
    → BeginsWithItem (level_left old) takes.kind takes.name takes.header (level_left inside) (level_left new)
    → once ≡ less ++ new ∷ [] → twice ≡ once ++ inside ∷ []
    → CompletesLines form path text trees more (stack level_left twice)
lines_item files form path text trees lines more old new inside levels less once twice step depth takes of h split deep
    put begins pushed again =
    let found : List Entry =
    h.found ++ lists (is_listed takes.kind takes.name) (entry_of (length less) takes.kind takes.name takes.header) in
    record {
      found = found;
      are = lines_put files form path text lines more h.found (level_left old) step depth (length less) takes of deep
          h.are put;
      all = completes_item level_left trees h.found found old new inside levels less once twice takes.kind takes.name
          takes.header h.all split begins refl pushed again;
    }

pub lines_alone : (files : Files) (form : Form) (path text : List ℕ) (trees : List TokenTree)
    (lines more : List (List ℕ)) (old new : Level) (levels less once : List Level) (step : ReadItem)
    (depth : ℕ) (takes : Takes files form path depth (level_left old) step) → files ≡ with_file new_map text
    → CompletesLines form path text trees lines (stack level_left levels) → levels ≡ less ++ old ∷ []
    → depth ≡ length less → more ≡ lines ++ option_to_list (option_map string_bytes step.line)
    → BeginsWithItem (level_left old) takes.kind takes.name takes.header [] (level_left new)
    → once ≡ less ++ new ∷ [] → CompletesLines form path text trees more (stack level_left once)
lines_alone files form path text trees lines more old new levels less once step depth takes of h split deep put begins
    pushed =
    let found : List Entry =
    h.found ++ lists (is_listed takes.kind takes.name) (entry_of (length less) takes.kind takes.name takes.header) in
    record {
      found = found;
      are = lines_put files form path text lines more h.found (level_left old) step depth (length less) takes of deep
          h.are put;
      all = completes_alone level_left trees h.found found old new levels less once takes.kind takes.name takes.header
          h.all split begins refl pushed;
    }

pub one_listed : (form : Form) (path text : List ℕ) (is : Bool) (entry : Entry) (line : Option (List ℕ)) → true ≡ is
    → line ≡ line_of form path (shown_line text entry)
    → option_to_list line ≡ lines_of form path text (lists is entry)
one_listed form path text is entry line put so =
    ap option_to_list so ∙ sym (append-nil (option_to_list (line_of form path (shown_line text entry))))
    ∙ ap (λ b. lines_of form path text (lists b entry)) put

-- ---- the results of calls

pub nil_left : (f : Forest) → true ≡ is_nil f → trees_in f ≡ []
nil_left nil is = refl
nil_left (leaf token lo hi rest) is = cc
nil_left (group d lo hi inside rest) is = cc

pub some_left : (f : Forest) → false ≡ is_nil f → trees_in f ≡ [] → ⊥
some_left nil is none = cc
some_left (leaf token lo hi rest) is none = cc
some_left (group d lo hi inside rest) is none = cc

pub some_body : (given : Option (Bor Grouped)) (body : Option Grouped)
    → MatchOption given (body ≡ None) (λ g. body ≡ Some g.now) → is_some given ≡ is_some body
some_body None body is = sym (ap is_some is)
some_body (Some g) body is = sym (ap is_some is)

pub found_weaker : {A B E : Type 0} (r : Result (Result A B) E) (P Q : A → Type 0) → ((x : A) → P x → Q x)
    → IfOk r (λ found. IfOk found P) → IfOk r (λ found. IfOk found Q)
found_weaker (Ok (Ok x)) P Q f h = f x h
found_weaker (Ok (Err y)) P Q f h = tt
found_weaker (Err e) P Q f h = tt

pub none_weaker : {A B E : Type 0} (r : Result (Result A B) E) (P Q : B → Type 0) → ((y : B) → P y → Q y)
    → IfOk r (λ found. IfErr found P) → IfOk r (λ found. IfErr found Q)
none_weaker (Ok (Ok x)) P Q f h = tt
none_weaker (Ok (Err y)) P Q f h = f y h
none_weaker (Err e) P Q f h = tt

pub stop_holds : {T : Type 0} (of : T → List TokenTree) (trees : List TokenTree) (old : T) (levels less : List T)
    → Requires trees (stack of levels) → levels ≡ less ++ old ∷ [] → (of old ≡ [] → ⊥) → IsStopped (of old)
    → (whole : Outline) → IsTreesOutline trees whole → ⊥
stop_holds of trees old levels less h split some (inl never) = item_stops of trees old levels less h split some never
stop_holds of trees old levels less h split some (inr closed) =
    closed_stops of trees old levels less closed.part closed.rest closed.kind closed.name h split closed.read
    closed.kind_and_name closed.never
