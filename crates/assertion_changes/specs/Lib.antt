-- One assertion, entered or withdrawn.
pub mod Entering
