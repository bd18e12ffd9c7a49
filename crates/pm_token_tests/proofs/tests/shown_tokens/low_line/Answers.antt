use Rattle.pm_token.proofs.TestTokens.{is_built_low_line}
use Rattle.pm_token_tests.proofs.tests.shown_tokens.low_line.Goals as goal

pub ident-requires : goal.ident-requires
ident-requires c = is_built_low_line
