pub mod FewHands
