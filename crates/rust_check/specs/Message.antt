-- What is written for a finding: its name, what it is, and where it is.
use Rattle.std.specs.Prelude.{ℕ, ◌+◌, ◌-◌, ◌==◌, List, [], ◌∷◌, ◌++◌, codes, decimal, encode_utf8, length, nat_lt}
use Rattle.std.specs.Prelude.{if◌then◌else◌}
use Rattle.std.specs.Str.{chars, encode_utf8_all}
use Rattle.messages.specs.Each.{each}
use Rattle.messages.specs.Json.{json_escape}
use Rattle.rust_check.specs.Colours.{Codes, plain, terminal}
use Rattle.rust_check.specs.TextPosition.{first_line}
use Rattle.rust_check.specs.Shown.{carets, fill_columns, visible_char, times}
use Rattle.rust_check.specs.declared.finding.Finding.{Finding}
use Rattle.rust_check.specs.declared.options.Form.{Form}
use Rattle.rust_check.specs.declared.options.Form.TheVariants.{Short, Long, Coloured, Json}

-- the name of a finding, what it is, and where: its line, counted from 1, the number of characters before it on that
-- line, and the number of bytes before it in the text; then the characters before it on its line, its own, and all from
-- its first on
pub record Found : Type 0 where
  pub name : List ℕ
  pub says : List ℕ
  pub line : ℕ
  pub column : ℕ
  pub begin : ℕ
  pub front : List ℕ
  pub here : List ℕ
  pub rest : List ℕ

-- the finding of the program's record
abbrev pub finding_of : Finding → Found
finding_of x = record {
  name = x.name.now;
  says = x.says.now;
  line = x.place.line;
  column = x.place.column;
  begin = x.place.begin;
  front = chars x.front.now;
  here = chars x.here.now;
  rest = chars x.rest.now;
}

-- the number of bytes before the end of the finding
abbrev pub end_of : Found → ℕ
end_of x = x.begin + length (encode_utf8_all x.here)

-- the short form, `FILE:L:C: error: what`
abbrev pub short : List ℕ → Found → List ℕ
short path x =
    path ++ (codes ":" ++ (decimal x.line ++ (codes ":" ++ (decimal (x.column + 1) ++ (codes ": error: "
    ++ (x.says ++ codes "\n"))))))

-- the line of the source, as it is shown
abbrev pub source_line : Found → List ℕ
source_line x = each visible_char x.front ++ each visible_char (first_line x.rest)

-- the carets below the line of the source
abbrev pub underline : Found → List ℕ
underline x = fill_columns (codes " ") x.front ++ carets (first_line x.here)

-- spaces for the width of the line number
abbrev pub gutter : Found → List ℕ
gutter x = times (length (decimal x.line)) (codes " ")

-- where the finding is, its line of the source, and carets below that
abbrev pub excerpt : Codes → List ℕ → Found → List ℕ
excerpt k path x =
    gutter x ++ (k.line ++ (codes "-->" ++ (k.off ++ (codes " " ++ (path ++ (codes ":" ++ (decimal x.line
    ++ (codes ":" ++ (decimal (x.column + 1) ++ (codes "\n" ++ (k.line ++ (gutter x ++ (codes " |" ++ (k.off
    ++ (codes "\n" ++ (k.line ++ (decimal x.line ++ (codes " |" ++ (k.off ++ (codes " " ++ (source_line x
    ++ (codes "\n" ++ (k.line ++ (gutter x ++ (codes " |" ++ (k.off ++ (codes " " ++ (k.fault ++ (underline x
    ++ (k.off ++ codes "\n"))))))))))))))))))))))))))))))

-- the line that says what is wrong
abbrev pub headline : Codes → Found → List ℕ
headline k x =
    k.fault ++ (codes "error[" ++ (x.name ++ (codes "]" ++ (k.off ++ (k.strong ++ (codes ": " ++ (x.says
    ++ (k.off ++ codes "\n"))))))))

abbrev pub long : Codes → List ℕ → Found → List ℕ
long k path x = headline k x ++ excerpt k path x

-- the first part of the JSON object: the file and what is wrong
abbrev pub json_what : List ℕ → Found → List ℕ
json_what path x =
    codes "{\"file\":\"" ++ (json_escape path ++ (codes "\",\"reason\":\"" ++ (x.name ++ (codes "\",\"message\":\""
    ++ (json_escape x.says ++ codes "\",")))))

-- the second part of the JSON object: where the finding is
abbrev pub json_where : Found → List ℕ
json_where x =
    codes "\"line\":" ++ (decimal x.line ++ (codes ",\"column\":" ++ (decimal (x.column + 1)
    ++ (codes ",\"begin\":" ++ (decimal x.begin ++ (codes ",\"end\":" ++ (decimal (end_of x) ++ codes "}\n")))))))

abbrev pub json : List ℕ → Found → List ℕ
json path x = json_what path x ++ json_where x

-- a finding on one line: as JSON if that is the form, else in the short form
abbrev pub line_message : Form → List ℕ → Found → List ℕ
line_message Json path x = json path x
line_message _ path x = short path x

abbrev pub message : Form → List ℕ → Found → List ℕ
message Short path x = short path x
message Long path x = long plain path x
message Coloured path x = long terminal path x
message Json path x = json path x
