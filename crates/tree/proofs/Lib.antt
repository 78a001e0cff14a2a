pub mod ExpressionTwins
pub mod StatementTwins
pub mod AloneLemmas
