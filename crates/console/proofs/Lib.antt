pub mod ShortParts
pub mod ReportReplies
pub mod FirstLine
pub mod OneLineMore
pub mod RulesKept
