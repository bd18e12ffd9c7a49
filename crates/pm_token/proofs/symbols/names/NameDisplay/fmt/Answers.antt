use Rattle.std.proofs.Common.{◌≡◌, ap, sym, ◌∙◌}
use Rattle.std.specs.Str.{encode_utf8_all}
use Rattle.std.proofs.lemmas.Str.{encodes-chars}
use Rattle.pm_token.proofs.symbols.names.NameDisplay.fmt.Goals as goal

-- the characters of the text, in UTF-8, are its bytes
pub returns-clause-writes : goal.returns-clause-writes
returns-clause-writes g c =
    let same : encode_utf8_all c.args.self.now.name ≡ c.as_str.result.now =
    ap encode_utf8_all (sym c.as_str.ensures) ∙ encodes-chars c.as_str.result.now c.as_str.utf8 in
    rw same c.write_str.ensures.writes
