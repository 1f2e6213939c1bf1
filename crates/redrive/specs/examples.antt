pub mod DeadLetters
