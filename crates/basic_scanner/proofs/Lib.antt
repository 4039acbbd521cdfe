mod DigitLemmas
mod FrontSteps
mod ItemLemmas
mod ShortLemmas
mod WordLemmas
