-- The line of a declaration.
use Rattle.std.specs.Prelude.{ℕ, zero, suc, ◌+◌, Bool, List, [], ◌∷◌, ◌++◌, Option, Some, None}
use Rattle.std.specs.Prelude.{codes, decimal, encode_utf8, min, nat_le, if◌then◌else◌}
use Rattle.proc_macro2.specs.declared.LineColumn.{LineColumn}
use Rattle.declarations.specs.declared.any_item.ItemKind.{ItemKind}
use Rattle.declarations.specs.declared.any_item.ItemKind.TheVariants as kinds
use Rattle.messages.specs.Json.{json_escape}
use Rattle.outline.specs.declared.lines.Shown.{Shown}
use Rattle.outline.specs.declared.options.Form.{Form}
use Rattle.outline.specs.declared.options.Form.TheVariants.{Lines, Json, Ctags}

-- a declaration as it is shown: the number of declarations it is in, its kind, whether it has a name, its name or
-- header, and where it begins
pub record Line : Type 0 where
  pub depth : ℕ
  pub kind : ItemKind
  pub named : Bool
  pub name : List ℕ
  pub start : LineColumn

-- the program's record of a shown declaration, as a `Line`
abbrev pub line_of_value : Shown → Line
line_of_value x = record {
  depth = x.depth;
  kind = x.kind;
  named = x.named;
  name = x.name.now;
  start = x.start;
}

-- the word for a kind of item
abbrev pub word_of : ItemKind → List ℕ
word_of kinds.Constant = codes "const"
word_of kinds.Enum = codes "enum"
word_of kinds.ExternBlock = codes "extern"
word_of kinds.ExternCrate = codes "crate"
word_of kinds.Function = codes "fn"
word_of kinds.Group = codes "item"
word_of kinds.Impl = codes "impl"
word_of kinds.Macro = codes "macro"
word_of kinds.MacroCall = codes "macro"
word_of kinds.Module = codes "mod"
word_of kinds.Static = codes "static"
word_of kinds.Struct = codes "struct"
word_of kinds.Trait = codes "trait"
word_of kinds.TraitAlias = codes "trait"
word_of kinds.TypeAlias = codes "type"
word_of kinds.Union = codes "union"
word_of kinds.Use = codes "use"

-- the text, repeated so many times
abbrev pub times : ℕ → List ℕ → List ℕ
times zero text = []
times (suc n) text = text ++ times n text

-- two spaces for each level, for at most 32 levels
abbrev pub indent : ℕ → List ℕ
indent depth = times (min depth 32) (codes "  ")

-- the word for the kind and the name, or the header if there is no name
abbrev pub title : Line → List ℕ
title x = if x.named then word_of x.kind ++ (codes " " ++ x.name) else x.name

-- the line `FILE:L:C: fn name`. Line and column count from 1
abbrev pub plain : List ℕ → Line → List ℕ
plain path x =
    path ++ (codes ":" ++ (decimal x.start.line ++ (codes ":" ++ (decimal (x.start.column + 1) ++ (codes ": "
    ++ (indent x.depth ++ title x))))))

-- the declaration as a JSON object
abbrev pub json : List ℕ → Line → List ℕ
json path x =
    codes "{\"file\":\"" ++ (json_escape path ++ (codes "\",\"line\":" ++ (decimal x.start.line ++ (codes ",\"column\":"
    ++ (decimal (x.start.column + 1) ++ (codes ",\"kind\":\"" ++ (word_of x.kind ++ (codes "\",\"name\":\""
    ++ (json_escape x.name ++ (codes "\",\"depth\":" ++ (decimal x.depth ++ codes "}")))))))))))

-- the line of a declaration in a `tags` file
abbrev pub tag : List ℕ → Line → List ℕ
tag path x =
    x.name ++ (codes "\t" ++ (path ++ (codes "\t" ++ (decimal x.start.line ++ (codes ";\"\t" ++ word_of x.kind)))))

-- the line of a declaration. A `tags` file has lines only for items with names
abbrev pub line_of : Form → List ℕ → Line → Option (List ℕ)
line_of Lines path x = Some (plain path x)
line_of Json path x = Some (json path x)
line_of Ctags path x = if x.named then Some (tag path x) else None

-- ---- a header

-- a character, and a space before it if it is after a gap. Spaces (32) and control characters are gaps
abbrev pub in_line : Bool → ℕ → List ℕ
in_line gap c = if nat_le c 32 then [] else (if gap then 32 ∷ encode_utf8 c else encode_utf8 c)

-- the characters on one line, with one space for each gap except at the end. The first may be after a gap
abbrev pub one_line : Bool → List ℕ → List ℕ
one_line gap [] = []
one_line gap (c ∷ cs) = in_line gap c ++ one_line (nat_le c 32) cs
