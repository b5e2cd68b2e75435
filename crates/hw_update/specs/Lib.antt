pub mod HwPtr
