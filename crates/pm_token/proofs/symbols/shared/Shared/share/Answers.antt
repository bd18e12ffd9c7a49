use Rattle.std.proofs.Common.{◌≡◌, length, ap, ◌∙◌, sym, arith}
use Rattle.std.specs.Rc.{rc_str_bytes}
use Rattle.std.specs.Str.{chars, encode_utf8_all}
use Rattle.std.proofs.lemmas.Str.{encodes-chars}
use Rattle.pm_token.proofs.symbols.shared.Shared.share.Goals as goal

pub returns-in_err-clone-clause-short : goal.returns-in_err-clone-clause-short
returns-in_err-clone-clause-short c = λ short.
    let size : length (encode_utf8_all (chars (rc_str_bytes c.args.self.now.text)))
    ≡ length (rc_str_bytes c.args.self.now.text) =
    ap (λ bytes. length (encode_utf8_all (chars bytes))) (sym c.as_str.ensures.value)
    ∙ (ap length (encodes-chars _ c.as_str.utf8) ∙ ap length c.as_str.ensures.value) in
    absurd (omega (arith, short, c.args.self.now.long, size))
