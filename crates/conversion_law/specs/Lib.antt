-- promises of laws, and the words that they are in
pub mod SameFacts
pub mod Landing
pub mod Agreement
pub mod Told
pub mod StepsAgree
pub mod SameDerived
pub mod LaterDiffers
pub mod Law
pub mod OnceEach
pub mod FewRows
pub mod NeverFull
pub mod IsUnique
pub mod NeverClipped
pub mod TextsAreUtf8
pub mod Examples
pub mod ReadExamples
-- for proofs alone
pub mod Given
